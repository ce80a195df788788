-- The end of each reply is read off its payloads.
use Rattle.std.specs.Prelude.{◌≡◌, ◌⊎◌, ◌<◌, ℕ, suc, ◌+◌, Bool, true, false, nat_eq, nat_lt, List, [], ◌∷◌, ◌++◌, length, Some, None, if◌then◌else◌, refl}
use Rattle.std.proofs.Common.{sym, ap, ◌∙◌, subst, inl, inr, arith, append_assoc, length-append}
use Rattle.std.proofs.lemmas.Bool.{lt-ltb}
use Rattle.mx_base.specs.FieldLaws.{number_at-there}
use Rattle.mx_base.specs.Fields.{lenenc_at, lenenc_by, little_endian, number_at, value_to}
use Rattle.mx_base.specs.declared.fields.Field.TheVariants.{Value}
use Rattle.packet_frame.specs.PacketLaws.{nat_eq-true}
use Rattle.reply_track.specs.Grammar.{AreResults, EofEnds, ErrEnds, IsReply, IsResult, OkEnds}
use Rattle.reply_track.specs.Grammar.AreResults.{Last, Then}
use Rattle.reply_track.specs.Payloads.{IsEof, IsErr, IsNumber, IsOk, IsPrepared, IsTwo}
use Rattle.reply_track.specs.declared.reply.ReplyEnd.{ReplyEnd}
use Rattle.reply_track.specs.declared.reply.ReplyKind.{ReplyKind}
use Rattle.reply_track.specs.declared.reply.ReplyKind.TheVariants.{Command, Prepare, Fields}
use Rattle.server_rule.specs.Replies.{end_by, err_end, first_payload, is_eof_payload, is_err_payload, last_payload, ok_behind_rows, prepare_end_by, prepared_end, reply_end, rows_end}
use Rattle.session_state.specs.declared.reply_end.EndKind.TheVariants as kinds
use Rattle.reply_ends.specs.Ends.{end_read, is_of_prepare}

-- Numbers.

-- by the first byte of a length-encoded number: it is one byte, or so many more follow
data Sized : (first len : ℕ) → Type 0 where
  One : {first : ℕ} → nat_lt first 251 ≡ true → Sized first 0
  Two : Sized 252 2
  Three : Sized 253 3
  Eight : Sized 254 8

some_is : {a b : ℕ} → Some a ≡ Some b → a ≡ b
some_is e = cc

sized_by : (first len : ℕ) (small two three eight : Bool) → nat_lt first 251 ≡ small → nat_eq first 252 ≡ two → nat_eq first 253 ≡ three → nat_eq first 254 ≡ eight
    → (if small then Some 0 else if two then Some 2 else if three then Some 3 else if eight then Some 8 else None) ≡ Some len → Sized first len
sized_by first len true two three eight s a b c e = subst (Sized first) (some_is e) (One s)
sized_by first len false true three eight s a b c e = subst (λ n. Sized n len) (sym (nat_eq-true first 252 a)) (subst (Sized 252) (some_is e) Two)
sized_by first len false false true eight s a b c e = subst (λ n. Sized n len) (sym (nat_eq-true first 253 b)) (subst (Sized 253) (some_is e) Three)
sized_by first len false false false true s a b c e = subst (λ n. Sized n len) (sym (nat_eq-true first 254 c)) (subst (Sized 254) (some_is e) Eight)
sized_by first len false false false false s a b c e = absurd (cc)

one_byte : (first : ℕ) (before others rest : List ℕ) → number_at 1 (length before) (before ++ ((first ∷ others) ++ rest)) ≡ Some first
one_byte first before others rest = number_at-there 1 before (first ∷ []) (others ++ rest) refl ∙ ap Some (omega arith)

-- the number behind its first byte
more_bytes : (size first : ℕ) (before others rest : List ℕ) → length others ≡ size → number_at size (length before + 1) (before ++ ((first ∷ others) ++ rest)) ≡ Some (little_endian others)
more_bytes size first before others rest is =
    let front : List ℕ = before ++ first ∷ [] in
    let place : length front ≡ length before + 1 = omega (arith, length-append before (first ∷ [])) in
    let bytes : before ++ ((first ∷ others) ++ rest) ≡ front ++ (others ++ rest) = sym (append_assoc before (first ∷ []) (others ++ rest)) in
    rw (bytes, ← place) (number_at-there size front others rest is)

at_end : (a b n len : ℕ) → a ≡ b → n ≡ len → Value a n ≡ Value b len
at_end a b n len e f = λ i. Value (e i) (f i)

number_there : (before bytes rest : List ℕ) (n : ℕ) → IsNumber bytes n → lenenc_at (length before) (before ++ (bytes ++ rest)) ≡ Value n (length before + length bytes)
number_there before bytes rest n is =
    subst (λ b. lenenc_at (length before) (before ++ (b ++ rest)) ≡ Value n (length before + length b)) (sym is.is)
    (ap (lenenc_by (length before) (before ++ ((is.first ∷ is.others) ++ rest))) (one_byte is.first before is.others rest) ∙ by is.first is.others (length is.others) refl (sized_by is.first (length is.others) _ _ _ _ refl refl refl refl is.sized) is.value)
  where
    by : (first : ℕ) (others : List ℕ) (len : ℕ) → length others ≡ len → Sized first len → n ≡ (if nat_lt first 251 then first else little_endian others)
        → lenenc_by (length before) (before ++ ((first ∷ others) ++ rest)) (Some first) ≡ Value n (length before + suc (length others))
    by first others len same (One small) value = rw small (at_end first n _ _ (sym (value ∙ ap (λ b. if b then first else little_endian others) small)) (omega arith))
    by first others len same Two value = ap (value_to (length before + 3)) (more_bytes 2 252 before others rest same) ∙ at_end _ n _ _ (sym value) (omega arith)
    by first others len same Three value = ap (value_to (length before + 4)) (more_bytes 3 253 before others rest same) ∙ at_end _ n _ _ (sym value) (omega arith)
    by first others len same Eight value = ap (value_to (length before + 9)) (more_bytes 8 254 before others rest same) ∙ at_end _ n _ _ (sym value) (omega arith)

-- Payloads.

two_there : (before : List ℕ) (a b n : ℕ) (rest : List ℕ) → IsTwo a b n → number_at 2 (length before) (before ++ (a ∷ b ∷ rest)) ≡ Some n
two_there before a b n rest is = number_at-there 2 before (a ∷ b ∷ []) rest refl ∙ ap Some (omega (arith, is.is))

ok_read : (payload : List ℕ) (flags warnings id : ℕ) → IsOk payload flags warnings id → end_by payload ≡ record { kind = kinds.Ok; flags = Some flags; warnings = warnings; insert_id = id; code = 0; server_number = 0; params = 0 }
ok_read payload flags warnings id ok = subst (λ p. end_by p ≡ record { kind = kinds.Ok; flags = Some flags; warnings = warnings; insert_id = id; code = 0; server_number = 0; params = 0 }) (sym ok.is) shown
  where
    status : List ℕ
    status = ok.f ∷ ok.g ∷ ok.w ∷ ok.v ∷ ok.info

    shown : end_by (0 ∷ (ok.rows ++ (ok.insert ++ (ok.f ∷ ok.g ∷ ok.w ∷ ok.v ∷ ok.info)))) ≡ record { kind = kinds.Ok; flags = Some flags; warnings = warnings; insert_id = id; code = 0; server_number = 0; params = 0 }
    shown =
        let behind : List ℕ = ok.f ∷ ok.g ∷ ok.w ∷ ok.v ∷ ok.info in
        let whole : List ℕ = 0 ∷ (ok.rows ++ (ok.insert ++ behind)) in
        let front : List ℕ = 0 ∷ (ok.rows ++ ok.insert) in
        let first : lenenc_at 1 whole ≡ _ = number_there (0 ∷ []) ok.rows (ok.insert ++ behind) ok.affected ok.affected_rows in
        let second : lenenc_at (length (0 ∷ ok.rows)) whole ≡ _ = number_there (0 ∷ ok.rows) ok.insert behind id ok.last_insert_id in
        let one : 1 + length ok.rows ≡ length (0 ∷ ok.rows) = omega arith in
        let place : length (0 ∷ ok.rows) + length ok.insert ≡ length front = omega (arith, length-append ok.rows ok.insert) in
        let bytes : whole ≡ front ++ behind = ap (λ xs. 0 ∷ xs) (sym (append_assoc ok.rows ok.insert behind)) in
        let shows : number_at 2 (length front) whole ≡ Some flags = ap (λ xs. number_at 2 (length front) xs) bytes ∙ two_there front ok.f ok.g flags (ok.w ∷ ok.v ∷ ok.info) ok.status_flags in
        let later : List ℕ = front ++ ok.f ∷ ok.g ∷ [] in
        let there : length later ≡ length front + 2 = omega (arith, length-append front (ok.f ∷ ok.g ∷ [])) in
        let again : front ++ behind ≡ later ++ (ok.w ∷ ok.v ∷ ok.info) = sym (append_assoc front (ok.f ∷ ok.g ∷ []) (ok.w ∷ ok.v ∷ ok.info)) in
        let warns : number_at 2 (length front + 2) whole ≡ Some warnings =
        ap (λ at. number_at 2 at whole) (sym there) ∙ (ap (λ xs. number_at 2 (length later) xs) (bytes ∙ again) ∙ two_there later ok.w ok.v warnings ok.info ok.warning_count) in
        rw (first, one, second, place, shows, warns) refl

two_is : (a b n : ℕ) → IsTwo a b n → little_endian (a ∷ b ∷ []) ≡ n
two_is a b n is = omega (arith, is.is)

err_read : (payload : List ℕ) (code : ℕ) → IsErr payload code → (is_err_payload payload ≡ true) × (err_end payload ≡ record { kind = kinds.Err; flags = None; warnings = 0; insert_id = 0; code = code; server_number = 0; params = 0 })
err_read payload code err = subst (λ p. (is_err_payload p ≡ true) × (err_end p ≡ record { kind = kinds.Err; flags = None; warnings = 0; insert_id = 0; code = code; server_number = 0; params = 0 })) (sym err.is)
    (refl, rw (two_there (255 ∷ []) err.a err.b code (35 ∷ (err.state ++ err.message)) err.error_code) refl)

eof_read : (payload : List ℕ) (flags warnings : ℕ) → IsEof payload flags warnings → end_by payload ≡ record { kind = kinds.Rows; flags = Some flags; warnings = warnings; insert_id = 0; code = 0; server_number = 0; params = 0 }
eof_read payload flags warnings eof =
    subst (λ p. length p < 9 → end_by p ≡ record { kind = kinds.Rows; flags = Some flags; warnings = warnings; insert_id = 0; code = 0; server_number = 0; params = 0 }) (sym eof.is) shown eof.short
  where
    shown : length (254 ∷ eof.w ∷ eof.v ∷ eof.f ∷ eof.g ∷ eof.more) < 9 → end_by (254 ∷ eof.w ∷ eof.v ∷ eof.f ∷ eof.g ∷ eof.more) ≡ record { kind = kinds.Rows; flags = Some flags; warnings = warnings; insert_id = 0; code = 0; server_number = 0; params = 0 }
    shown short =
        rw (lt-ltb _ _ short, two_there (254 ∷ []) eof.w eof.v warnings (eof.f ∷ eof.g ∷ eof.more) eof.warning_count, two_there (254 ∷ eof.w ∷ eof.v ∷ []) eof.f eof.g flags eof.more eof.status_flags) refl

prepared_read : (payload : List ℕ) (number columns params warnings : ℕ) → IsPrepared payload number columns params warnings
    → prepare_end_by payload ≡ record { kind = kinds.Prepared; flags = None; warnings = warnings; insert_id = 0; code = 0; server_number = number; params = params }
prepared_read payload number columns params warnings is =
    subst (λ p. prepare_end_by p ≡ record { kind = kinds.Prepared; flags = None; warnings = warnings; insert_id = 0; code = 0; server_number = number; params = params }) (sym is.is)
    (λ i. record { kind = kinds.Prepared; flags = None; warnings = two_is is.w is.v warnings is.warning_count i; insert_id = 0; code = 0; server_number = number_is i; params = two_is is.g is.h params is.param_count i })
  where
    number_is : little_endian (is.a ∷ is.b ∷ is.c ∷ is.d ∷ []) ≡ number
    number_is = omega (arith, is.statement)

-- Replies.

last_of : (xs : List (List ℕ)) (y : List ℕ) (ys : List (List ℕ)) → last_payload (xs ++ y ∷ ys) ≡ last_payload (y ∷ ys)
last_of [] y ys = refl
last_of (x ∷ []) y ys = refl
last_of (x ∷ next ∷ xs) y ys = last_of (next ∷ xs) y ys

err_ends : (payload : List ℕ) (end : ReplyEnd) → ErrEnds payload end → end_read end ≡ end_by payload
err_ends payload end is = let read = err_read payload is.code is.err in ap end_read is.is ∙ (sym read.1 ∙ sym (ap (λ b. if b then err_end payload else (if is_eof_payload payload then rows_end payload else ok_behind_rows (lenenc_at 1 payload) payload)) read.0))

eof_ends : (payload : List ℕ) (end : ReplyEnd) → EofEnds payload end → end_read end ≡ end_by payload
eof_ends payload end is = ap end_read is.is ∙ sym (eof_read payload is.flags is.warnings is.eof)

ok_ends : (payload : List ℕ) (end : ReplyEnd) → OkEnds payload end → end_read end ≡ end_by payload
ok_ends payload end is = ap end_read is.is ∙ sym (ok_read payload is.flags is.warnings is.insert_id is.ok)

either_ends : (payload : List ℕ) (end : ReplyEnd) → EofEnds payload end ⊎ ErrEnds payload end → end_read end ≡ end_by payload
either_ends payload end (inl eof) = eof_ends payload end eof
either_ends payload end (inr err) = err_ends payload end err

-- the last payload is what ends it, and some stand there
record Closes (payloads : List (List ℕ)) (end : ReplyEnd) : Type 0 where
  front : List (List ℕ)
  last : List ℕ
  is : payloads ≡ front ++ last ∷ []
  ends : end_read end ≡ end_by last

one_closes : (payloads : List (List ℕ)) (end : ReplyEnd) (only : List ℕ) → payloads ≡ only ∷ [] → end_read end ≡ end_by only → Closes payloads end
one_closes payloads end only is ends = record { front = []; last = only; is = is; ends = ends }

result_closes : (payloads : List (List ℕ)) (end : ReplyEnd) → IsResult payloads end → Closes payloads end
result_closes payloads end (inl ok) = one_closes payloads end ok.only ok.is (ok_ends ok.only end ok.ends)
result_closes payloads end (inr (inl err)) = one_closes payloads end err.only err.is (err_ends err.only end err.ends)
result_closes payloads end (inr (inr set)) = record {
  front = set.count ∷ (set.definitions ++ set.rows);
  last = set.last;
  is = set.is ∙ ap (λ xs. set.count ∷ xs) (sym (append_assoc set.definitions set.rows (set.last ∷ [])));
  ends = either_ends set.last end set.ends;
}

results_close : (payloads : List (List ℕ)) (end : ReplyEnd) → AreResults payloads end → Closes payloads end
results_close payloads end (Last result none) = result_closes payloads end result
results_close payloads end (Then result others middle is first more later) =
    let rest = results_close others end later in
    record { front = result ++ rest.front; last = rest.last; is = is ∙ (ap (λ xs. result ++ xs) rest.is ∙ sym (append_assoc result rest.front (rest.last ∷ []))); ends = rest.ends }

closes_read : (payloads : List (List ℕ)) (end : ReplyEnd) → Closes payloads end → end_read end ≡ end_by (last_payload payloads)
closes_read payloads end is = is.ends ∙ sym (ap end_by (ap last_payload is.is ∙ last_of is.front is.last []))

pub ends_read : (kind : ReplyKind) (payloads : List (List ℕ)) (end : ReplyEnd) → IsReply kind payloads end → end_read end ≡ reply_end (is_of_prepare kind) payloads
unfolding reply_end
ends_read Command payloads end is = closes_read payloads end (results_close payloads end is)
ends_read Fields payloads end (inl err) = closes_read payloads end (one_closes payloads end err.only err.is (err_ends err.only end err.ends))
ends_read Fields payloads end (inr fields) = closes_read payloads end (record { front = fields.definitions; last = fields.last; is = fields.is; ends = eof_ends fields.last end fields.ends })
ends_read Prepare payloads end (inl err) =
    let read = err_read err.only err.ends.code err.ends.err in
    ap end_read err.ends.is ∙ (sym read.1 ∙ sym (ap (λ b. if b then err_end err.only else prepared_end err.only) read.0)) ∙ sym (ap prepare_end_by (ap first_payload err.is))
ends_read Prepare payloads end (inr made) =
    ap end_read made.ends ∙ sym (prepared_read made.first made.number made.columns made.params made.warnings made.prepared) ∙ sym (ap prepare_end_by (ap first_payload made.is))
