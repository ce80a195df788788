-- What a tracker reads in the payloads that begin a reply.
use Rattle.std.proofs.Common.{◌≡◌, ◌⊎◌, inl, inr, ◌≤◌, ◌<◌, ℕ, suc, ◌+◌, ◌*◌, ◌/◌, ◌%◌, Bool, true, false, cond, nat_lt, nat_eq, Option, Some, None, List, [], ◌∷◌, ◌++◌, length, refl, ◌∙◌, sym, ap, subst, arith, length-append, append_assoc}
use Rattle.std.proofs.lemmas.Bool.{le-leb}
use Rattle.mx_base.specs.Fields.{little_endian}
use Rattle.reply_track.specs.declared.due.Due.TheVariants.{Result as ResultDue, Answer, Definition}
use Rattle.reply_track.specs.declared.due.Behind.TheVariants.{Rows as RowsBehind}
use Rattle.reply_track.specs.declared.due.Next.{Next}
use Rattle.reply_track.specs.declared.due.Next.TheVariants.{Goes}
use Rattle.reply_track.specs.declared.head.Cell.TheVariants.{RowsFirst, InsertFirst}
use Rattle.reply_track.specs.declared.head.Number.TheVariants.{Rows as RowsNumber, Insert, Flags}
use Rattle.reply_track.specs.declared.body.Body.{Body}
use Rattle.reply_track.specs.declared.body.Body.TheVariants.{Due as DueBody, Cell as CellBody, Rest}
use Rattle.reply_track.specs.Payloads.{IsTwo, size_behind, IsNumber, IsOk, IsCount, IsPrepared, named, ok_end}
use Rattle.reply_track.specs.Steps.{taken, after_result, after_prepared, number_of, count_taken, number_read, two_bytes, four_bytes, insert_scaled}
use Rattle.reply_track.proofs.Messages.{Reads}
use Rattle.reply_track.proofs.Feeding.{Feeds, feed, feed-more, feed-number, shifted_all, two-read, four-read, insert-read}
use Rattle.reply_track.proofs.Classes.{is_not, result_long, IsFront, front_reads, PartReads, short_reads, quiet_flags, quiet_rows, quiet_insert}
use Rattle.packet_frame.specs.PacketLaws.{nat_eq-true}
use Rattle.std.proofs.lemmas.Bool.{ltb-true, lt-ltb, le-ltb}
use Rattle.reply_track.proofs.Heads.{count_part, one_taken}

-- how long a length-encoded number is, by its first byte
pub record IsSized (first size : ℕ) : Type 0 where
  pub which : ((first < 251) × (size ≡ 0)) ⊎ ((251 ≤ first) × ((size ≡ 2) ⊎ ((size ≡ 3) ⊎ (size ≡ 8))))
  pub by : ((first < 251) × (size ≡ 0)) ⊎ (((first ≡ 252) × (size ≡ 2)) ⊎ (((first ≡ 253) × (size ≡ 3)) ⊎ ((first ≡ 254) × (size ≡ 8))))

size_by : (first size : ℕ) (a b c d : Bool) → nat_lt first 251 ≡ a → nat_eq first 252 ≡ b → nat_eq first 253 ≡ c → nat_eq first 254 ≡ d → cond a (Some 0) (cond b (Some 2) (cond c (Some 3) (cond d (Some 8) None))) ≡ Some size → IsSized first size
size_by first size true b c d ea eb ec ed is = let none : size ≡ 0 = cc in record { which = inl (ltb-true first 251 ea, none); by = inl (ltb-true first 251 ea, none) }
size_by first size false true c d ea eb ec ed is = let two : size ≡ 2 = cc in let is_first = nat_eq-true first 252 eb in record { which = inr (omega arith, inl two); by = inr (inl (is_first, two)) }
size_by first size false false true d ea eb ec ed is = let three : size ≡ 3 = cc in let is_first = nat_eq-true first 253 ec in record { which = inr (omega arith, inr (inl three)); by = inr (inr (inl (is_first, three))) }
size_by first size false false false true ea eb ec ed is = let eight : size ≡ 8 = cc in let is_first = nat_eq-true first 254 ed in record { which = inr (omega arith, inr (inr eight)); by = inr (inr (inr (is_first, eight))) }
size_by first size false false false false ea eb ec ed is = absurd (cc)

pub sized : (first size : ℕ) → size_behind first ≡ Some size → IsSized first size
sized first size is = size_by first size (nat_lt first 251) (nat_eq first 252) (nat_eq first 253) (nat_eq first 254) refl refl refl refl is

pub sized-most : (first size : ℕ) → IsSized first size → size ≤ 8
sized-most first size is = elim is.which [ inl a ↦ omega (arith, a.1) | inr b ↦ elim b.1 [ inl two ↦ omega (arith, two) | inr c ↦ elim c [ inl three ↦ omega (arith, three) | inr eight ↦ omega (arith, eight) ] ] ]

-- a column count
Counts : (number n first : ℕ) (others : List ℕ) → Type 0
Counts number n first others = n ≡ cond (nat_lt first 251) first (little_endian others) → 0 < n → n < 65536 → PartReads ResultDue number (first ∷ others) (first ∷ others) (Goes (Definition n RowsBehind))

count_one : (number n first : ℕ) (others : List ℕ) → first < 251 → length others ≡ 0 → Counts number n first others
unfolding Counts
count_one number n first [] small none value some most =
    let is : n ≡ first = value ∙ rw (lt-ltb first 251 small) refl in
    let first_some : 0 < first = omega arith in
    let fed = feed (DueBody ResultDue) (count_taken first 0) number first [] (one_taken first first_some small) in
    rw is (record { takes = record { low = refl; lower = refl; whole = refl }; reads = fed.reads; makes = fed.makes })
count_one number n first (b ∷ bytes) small none value some most = absurd (omega arith)

count_two : (number n : ℕ) (others : List ℕ) → length others ≡ 2 → Counts number n 252 others
unfolding Counts
count_two number n [] is value some most = absurd (omega arith)
count_two number n (a ∷ []) is value some most = absurd (omega arith)
count_two number n (a ∷ b ∷ []) is value some most = count_part number 252 0 n a b [] refl value some most (record { low = refl; lower = refl; whole = refl })
count_two number n (a ∷ b ∷ c ∷ more) is value some most = absurd (omega arith)

count_three : (number n : ℕ) (others : List ℕ) → length others ≡ 3 → Counts number n 253 others
unfolding Counts
count_three number n [] is value some most = absurd (omega arith)
count_three number n (a ∷ []) is value some most = absurd (omega arith)
count_three number n (a ∷ b ∷ []) is value some most = absurd (omega arith)
count_three number n (a ∷ b ∷ c ∷ []) is value some most = count_part number 253 0 n a b (c ∷ []) refl value some most (record { low = refl; lower = refl; whole = refl })
count_three number n (a ∷ b ∷ c ∷ d ∷ more) is value some most = absurd (omega arith)

count_eight : (number n : ℕ) (others : List ℕ) → length others ≡ 8 → Counts number n 254 others
unfolding Counts
count_eight number n [] is value some most = absurd (omega arith)
count_eight number n (a ∷ []) is value some most = absurd (omega arith)
count_eight number n (a ∷ b ∷ bytes) is value some most =
    let six : length bytes ≡ 6 = omega arith in
    let long : length (254 ∷ a ∷ b ∷ bytes) ≡ 9 = omega arith in
    count_part number 254 0 n a b bytes (rw (long, six) refl) value some most (rw long (record { low = refl; lower = refl; whole = refl }))

pub count-reads : (number : ℕ) (payload : List ℕ) (n : ℕ) → IsCount payload n → Reads ResultDue number payload payload (Goes (Definition n RowsBehind))
unfolding Counts
count-reads number payload n is =
    let first : ℕ = is.number.first in
    let others : List ℕ = is.number.others in
    let size = sized first (length others) is.number.sized in
    let part : PartReads ResultDue number (first ∷ others) (first ∷ others) (Goes (Definition n RowsBehind)) = elim size.by [
      | inl itself ↦ count_one number n first others itself.0 itself.1 is.number.value is.some is.most
      | inr more ↦ elim more [
        | inl two ↦ subst (λ f. Counts number n f others) (sym two.0) (count_two number n others two.1) is.number.value is.some is.most
        | inr more ↦ elim more [
          | inl three ↦ subst (λ f. Counts number n f others) (sym three.0) (count_three number n others three.1) is.number.value is.some is.most
          | inr eight ↦ subst (λ f. Counts number n f others) (sym eight.0) (count_eight number n others eight.1) is.number.value is.some is.most
        ]
      ]
    ] in
    let most = sized-most first (length others) size in
    rw is.number.is (short_reads ResultDue number (first ∷ others) (first ∷ others) (Goes (Definition n RowsBehind)) (omega arith) refl part)

-- an OK
rows_feed : (number : ℕ) (rest others : List ℕ) (first : ℕ) → size_behind first ≡ Some (length others) → 5 ≤ length rest → Feeds (CellBody RowsFirst) number (first ∷ others) (first ∷ others) (CellBody InsertFirst) rest
rows_feed number rest [] first is long =
    let room : nat_lt (length (first ∷ rest)) 6 ≡ false = le-ltb _ _ (omega arith) in
    feed (CellBody RowsFirst) (CellBody InsertFirst) number first rest (rw (is, room) refl)
rows_feed number rest (b ∷ bytes) first is long =
    let size : ℕ = length (b ∷ bytes) in
    let left : ℕ = length (first ∷ ((b ∷ bytes) ++ rest)) in
    let room : nat_lt left (size + 6) ≡ false = le-ltb _ _ (omega (arith, length-append bytes rest)) in
    let first_taken : taken (CellBody RowsFirst) left first ≡ Some (number_of RowsNumber size) = rw (is, room, is_not size 0 (λ e. omega arith)) refl in
    feed-more (CellBody RowsFirst) (number_of RowsNumber size) (CellBody InsertFirst) number (first ∷ []) (first ∷ []) (b ∷ bytes) (b ∷ bytes) rest
    (feed (CellBody RowsFirst) (number_of RowsNumber size) number first ((b ∷ bytes) ++ rest) first_taken) (feed-number RowsNumber (CellBody InsertFirst) number rest bytes b 0 quiet_rows refl)

insert_feed : (number insert_id : ℕ) (rest others : List ℕ) (first : ℕ) → size_behind first ≡ Some (length others) → insert_id ≡ cond (nat_lt first 251) first (little_endian others) → 4 ≤ length rest
    → Feeds (CellBody InsertFirst) number (first ∷ others) (first ∷ others) (number_of (Flags insert_id) 4) rest
insert_feed number insert_id rest [] first is value long =
    let size = sized first 0 is in
    let small : first < 251 = elim size.which [ inl a ↦ a.0 | inr b ↦ absurd (elim b.1 [ inl two ↦ omega (arith, two) | inr c ↦ elim c [ inl three ↦ omega (arith, three) | inr eight ↦ omega (arith, eight) ] ]) ] in
    let same : insert_id ≡ first = value ∙ rw (lt-ltb first 251 small) refl in
    let room : nat_lt (length (first ∷ rest)) 5 ≡ false = le-ltb _ _ (omega arith) in
    rw same (feed (CellBody InsertFirst) (number_of (Flags first) 4) number first rest (rw (is, room) refl))
insert_feed number insert_id rest (b ∷ bytes) first is value long =
    let size : ℕ = length (b ∷ bytes) in
    let which : (251 ≤ first) × ((size ≡ 2) ⊎ ((size ≡ 3) ⊎ (size ≡ 8))) = elim ((sized first size is).which) [ inl a ↦ absurd (omega (arith, a.1)) | inr c ↦ c ] in
    let same : insert_id ≡ little_endian (b ∷ bytes) = value ∙ rw (le-ltb first 251 which.0) refl in
    let scaled : insert_scaled size (shifted_all 0 (b ∷ bytes)) ≡ insert_id = insert-read size (b ∷ bytes) refl which.1 ∙ sym same in
    let left : ℕ = length (first ∷ ((b ∷ bytes) ++ rest)) in
    let room : nat_lt left (size + 5) ≡ false = le-ltb _ _ (omega (arith, length-append bytes rest)) in
    let first_taken : taken (CellBody InsertFirst) left first ≡ Some (number_of (Insert size) size) = rw (is, room, is_not size 0 (λ e. omega arith)) refl in
    let read : number_read (Insert size) (shifted_all 0 (b ∷ bytes)) ≡ Some (number_of (Flags insert_id) 4) = ap (λ n. Some (number_of (Flags n) 4)) scaled in
    feed-more (CellBody InsertFirst) (number_of (Insert size) size) (number_of (Flags insert_id) 4) number (first ∷ []) (first ∷ []) (b ∷ bytes) (b ∷ bytes) rest
    (feed (CellBody InsertFirst) (number_of (Insert size) size) number first ((b ∷ bytes) ++ rest) first_taken) (feed-number (Insert size) (number_of (Flags insert_id) 4) number rest bytes b 0 (quiet_insert size) read)

flags_feed : (number insert_id f g w v flags warnings : ℕ) (rest : List ℕ) → IsTwo f g flags → IsTwo w v warnings
    → Feeds (number_of (Flags insert_id) 4) number (f ∷ g ∷ w ∷ v ∷ []) (f ∷ g ∷ w ∷ v ∷ []) (Rest (after_result flags (ok_end flags warnings insert_id))) rest
flags_feed number insert_id f g w v flags warnings rest is_flags is_warnings =
    let all : four_bytes (shifted_all 0 (f ∷ g ∷ w ∷ v ∷ [])) ≡ f + 256 * (g + 256 * (w + 256 * v)) = four-read f g w v in
    let low : four_bytes (shifted_all 0 (f ∷ g ∷ w ∷ v ∷ [])) % 65536 ≡ flags = rw all (omega (arith, is_flags.low, is_flags.high, is_flags.is)) in
    let high : four_bytes (shifted_all 0 (f ∷ g ∷ w ∷ v ∷ [])) / 65536 ≡ warnings = rw all (omega (arith, is_flags.low, is_flags.high, is_warnings.is)) in
    let read : number_read (Flags insert_id) (shifted_all 0 (f ∷ g ∷ w ∷ v ∷ [])) ≡ Some (Rest (after_result flags (ok_end flags warnings insert_id))) = rw (low, high) refl in
    feed-number (Flags insert_id) (Rest (after_result flags (ok_end flags warnings insert_id))) number rest (g ∷ w ∷ v ∷ []) f 0 (quiet_flags insert_id) read

number_length : (bytes : List ℕ) (n : ℕ) → IsNumber bytes n → (1 ≤ length bytes) × (length bytes ≤ 9)
number_length bytes n is =
    let size : length bytes ≡ suc (length is.others) = ap length is.is in
    let most = sized-most is.first (length is.others) (sized is.first (length is.others) is.sized) in
    (omega arith, omega arith)

ok_front : (number flags warnings insert_id : ℕ) (payload : List ℕ) (is : IsOk payload flags warnings insert_id) → IsFront ResultDue number (0 ∷ (is.rows ++ (is.insert ++ (is.f ∷ is.g ∷ is.w ∷ is.v ∷ [])))) (after_result flags (ok_end flags warnings insert_id))
ok_front number flags warnings insert_id payload is =
    let rows : List ℕ = is.rows in
    let insert : List ℕ = is.insert in
    let last : List ℕ = is.f ∷ is.g ∷ is.w ∷ is.v ∷ [] in
    let tail : List ℕ = rows ++ (insert ++ last) in
    let a = number_length rows is.affected is.affected_rows in
    let b = number_length insert insert_id is.last_insert_id in
    let size : length tail ≡ length rows + (length insert + 4) = omega (arith, length-append rows (insert ++ last), length-append insert last) in
    record {
      some = omega arith;
      short = omega (arith, size, a.1, b.1);
      takes = λ n most. result_long n (omega (arith, size, a.0, b.0));
      feeds = λ rest.
          let next : Next = after_result flags (ok_end flags warnings insert_id) in
          let long : ℕ = length (0 ∷ (tail ++ rest)) in
          let open_ok : taken (DueBody ResultDue) long 0 ≡ Some (CellBody RowsFirst) = rw (le-leb 7 long (omega (arith, length-append tail rest, size, a.0, b.0))) refl in
          let behind_rows : 5 ≤ length ((insert ++ last) ++ rest) = omega (arith, length-append (insert ++ last) rest, length-append insert last, b.0) in
          let behind_insert : 4 ≤ length (last ++ rest) = omega arith in
          let rows_fed : Feeds (CellBody RowsFirst) number rows rows (CellBody InsertFirst) ((insert ++ last) ++ rest) = rw is.affected_rows.is (rows_feed number ((insert ++ last) ++ rest) is.affected_rows.others is.affected_rows.first is.affected_rows.sized behind_rows) in
          let insert_fed : Feeds (CellBody InsertFirst) number insert insert (number_of (Flags insert_id) 4) (last ++ rest) = rw is.last_insert_id.is (insert_feed number insert_id (last ++ rest) is.last_insert_id.others is.last_insert_id.first is.last_insert_id.sized is.last_insert_id.value behind_insert) in
          let last_fed = flags_feed number insert_id is.f is.g is.w is.v flags warnings rest is.status_flags is.warning_count in
          feed-more (DueBody ResultDue) (CellBody RowsFirst) (Rest next) number (0 ∷ []) (0 ∷ []) tail tail rest (feed (DueBody ResultDue) (CellBody RowsFirst) number 0 (tail ++ rest) open_ok)
          (feed-more (CellBody RowsFirst) (CellBody InsertFirst) (Rest next) number rows rows (insert ++ last) (insert ++ last) rest rows_fed
          (feed-more (CellBody InsertFirst) (number_of (Flags insert_id) 4) (Rest next) number insert insert last last rest insert_fed last_fed));
    }

pub ok-reads : (number : ℕ) (payload : List ℕ) (flags warnings insert_id : ℕ) → IsOk payload flags warnings insert_id → Reads ResultDue number payload payload (after_result flags (ok_end flags warnings insert_id))
ok-reads number payload flags warnings insert_id is =
    let last : List ℕ = is.f ∷ is.g ∷ is.w ∷ is.v ∷ [] in
    let front : List ℕ = 0 ∷ (is.rows ++ (is.insert ++ last)) in
    let same : payload ≡ front ++ is.info = is.is ∙ ap (λ bs. 0 ∷ bs) (ap (λ bs. is.rows ++ bs) (sym (append_assoc is.insert last is.info)) ∙ sym (append_assoc is.rows (is.insert ++ last) is.info)) in
    rw same (front_reads ResultDue number front is.info (after_result flags (ok_end flags warnings insert_id)) (ok_front number flags warnings insert_id payload is))

-- the answer to a prepare
pub prepared-reads : (client_number : ℕ) (payload : List ℕ) (number columns params warnings : ℕ) → IsPrepared payload number columns params warnings
    → Reads Answer client_number payload (named client_number payload) (after_prepared columns (record { number = number; params = params; warnings = warnings }))
prepared-reads client_number payload number columns params warnings is =
    let a : ℕ = is.a in
    let b : ℕ = is.b in
    let c : ℕ = is.c in
    let d : ℕ = is.d in
    let e : ℕ = is.e in
    let f : ℕ = is.f in
    let g : ℕ = is.g in
    let h : ℕ = is.h in
    let w : ℕ = is.w in
    let v : ℕ = is.v in
    let bytes : List ℕ = 0 ∷ a ∷ b ∷ c ∷ d ∷ e ∷ f ∷ g ∷ h ∷ 0 ∷ w ∷ v ∷ [] in
    let shape : four_bytes (shifted_all 0 (e ∷ f ∷ g ∷ h ∷ [])) ≡ e + 256 * (f + 256 * (g + 256 * h)) = four-read e f g h in
    let statement : four_bytes (shifted_all 0 (a ∷ b ∷ c ∷ d ∷ [])) ≡ number = four-read a b c d ∙ sym is.statement in
    let low : four_bytes (shifted_all 0 (e ∷ f ∷ g ∷ h ∷ [])) % 65536 ≡ columns = rw shape (omega (arith, is.column_count.low, is.column_count.high, is.column_count.is)) in
    let high : four_bytes (shifted_all 0 (e ∷ f ∷ g ∷ h ∷ [])) / 65536 ≡ params = rw shape (omega (arith, is.column_count.low, is.column_count.high, is.param_count.is)) in
    let warned : two_bytes (shifted_all 0 (w ∷ v ∷ [])) ≡ warnings = two-read w v ∙ sym is.warning_count.is in
    let next : ℕ → ℕ → ℕ → ℕ → Option Body = λ (n : ℕ) (m : ℕ) (p : ℕ) (q : ℕ). Some (Rest (after_prepared m (record { number = n; params = p; warnings = q }))) in
    let same : next (four_bytes (shifted_all 0 (a ∷ b ∷ c ∷ d ∷ []))) (four_bytes (shifted_all 0 (e ∷ f ∷ g ∷ h ∷ [])) % 65536) (four_bytes (shifted_all 0 (e ∷ f ∷ g ∷ h ∷ [])) / 65536) (two_bytes (shifted_all 0 (w ∷ v ∷ []))) ≡ next number columns params warnings =
    ap (λ n. next n (four_bytes (shifted_all 0 (e ∷ f ∷ g ∷ h ∷ [])) % 65536) (four_bytes (shifted_all 0 (e ∷ f ∷ g ∷ h ∷ [])) / 65536) (two_bytes (shifted_all 0 (w ∷ v ∷ [])))) statement
    ∙ ap (λ m. next number m (four_bytes (shifted_all 0 (e ∷ f ∷ g ∷ h ∷ [])) / 65536) (two_bytes (shifted_all 0 (w ∷ v ∷ [])))) low
    ∙ ap (λ p. next number columns p (two_bytes (shifted_all 0 (w ∷ v ∷ [])))) high
    ∙ ap (next number columns params) warned in
    rw is.is (short_reads Answer client_number bytes (named client_number bytes) (after_prepared columns (record { number = number; params = params; warnings = warnings })) (omega arith) refl (record {
      takes = record { low = refl; lower = refl; whole = refl };
      reads = same;
      makes = refl;
    }))
