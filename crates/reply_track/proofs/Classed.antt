-- What class a payload is of that was read to its end.
use Rattle.std.proofs.Common.{◌≡◌, ◌≤◌, ◌<◌, ℕ, suc, ◌+◌, ◌-◌, ◌*◌, ◌/◌, ◌%◌, Bool, true, false, cond, nat_le, nat_lt, nat_eq, Some, None, List, [], ◌∷◌, ◌++◌, length, take, drop, refl, ◌∙◌, sym, ap, subst, arith, append_assoc, lit<}
use Rattle.std.proofs.lemmas.Bool.{leb-true, lt-ltb, le-ltb}
use Rattle.std.proofs.lemmas.Bool.Decides.{nat_tests}
use Rattle.mx_base.specs.Fields.{little_endian, AreBytes}
use Rattle.packet_frame.specs.PacketLaws.{nat_eq-true, nat_eq-false}
use Rattle.reply_track.specs.declared.due.Due.{Due}
use Rattle.reply_track.specs.declared.due.Due.TheVariants.{Result as ResultDue, Answer, Definition}
use Rattle.reply_track.specs.declared.due.Behind.TheVariants.{Rows as RowsBehind}
use Rattle.reply_track.specs.declared.due.Next.{Next}
use Rattle.reply_track.specs.declared.due.Next.TheVariants.{Goes, Ends}
use Rattle.reply_track.specs.declared.head.Eof.{Eof}
use Rattle.reply_track.specs.declared.head.Cell.TheVariants.{RowsFirst, ErrMark, CountZero}
use Rattle.reply_track.specs.declared.head.Number.TheVariants.{Flags, Code, Eof as EofNumber, Count}
use Rattle.reply_track.specs.declared.body.Body.{Body}
use Rattle.reply_track.specs.declared.body.Body.TheVariants.{Cell as CellBody, Rest}
use Rattle.reply_track.specs.Payloads.{IsTwo, size_behind, IsOk, IsErr, IsEof, IsCount, IsPlain, IsPrepared, ok_end, err_end}
use Rattle.reply_track.specs.Steps.{after_plain, after_eof, after_prepared, takes_err, eof_of, after_result, number_of, count_taken, two_bytes, four_bytes}
use Rattle.reply_track.proofs.Crossing.{read_body}
use Rattle.reply_track.proofs.Feeding.{shifted_all, two-read, four-read}
use Rattle.std.proofs.lemmas.List.{take-append-drop, length-take-le}
use Rattle.reply_track.proofs.Inverse.{cell-at, number-at, two, four_digits, rest-same, rows-at, insert-at}

pub data Class (due : Due) (payload : List ℕ) (next : Next) : Type 0 where
  ErrClass : (code : ℕ) → takes_err due ≡ true → IsErr payload code → next ≡ Ends (err_end code) → Class due payload next
  EofClass : (eof : Eof) (flags warnings : ℕ) → eof_of due ≡ Some eof → IsEof payload flags warnings → next ≡ after_eof eof flags warnings → Class due payload next
  PlainClass : (goes : Due) → after_plain due ≡ Some goes → IsPlain payload → next ≡ Goes goes → Class due payload next
  OkClass : (flags warnings insert_id : ℕ) → due ≡ ResultDue → IsOk payload flags warnings insert_id → next ≡ after_result flags (ok_end flags warnings insert_id) → Class due payload next
  CountClass : (n : ℕ) → due ≡ ResultDue → IsCount payload n → next ≡ Goes (Definition n RowsBehind) → Class due payload next
  PreparedClass : (number columns params warnings : ℕ) → due ≡ Answer → IsPrepared payload number columns params warnings → next ≡ after_prepared columns (record { number = number; params = params; warnings = warnings }) → Class due payload next

pub byte_of : (front bytes part : List ℕ) (b : ℕ) → part ≡ front ++ (b ∷ bytes) → AreBytes part → b < 256
byte_of [] bytes part b is are = rw is at are 0
byte_of (f ∷ front) bytes part b is are = byte_of front bytes (front ++ (b ∷ bytes)) b refl (λ i. rw is at are (suc i))

pub same_some : (x y : Body) → Some x ≡ Some y → y ≡ x
same_some x y is = cc

-- an ERR
pub class_err : (due : Due) (bytes : List ℕ) (next : Next) → AreBytes (255 ∷ bytes) → takes_err due ≡ true → 9 ≤ length (255 ∷ bytes) → read_body (number_of Code 2) bytes ≡ Some (Rest next) → Class due (255 ∷ bytes) next
class_err due bytes next are may long reads =
    let code = number-at Code next bytes 2 0 (lit< tt) reads in
    let digits = two code.digits code.count in
    let a : ℕ = digits.a in
    let b : ℕ = digits.b in
    let value : two_bytes (shifted_all 0 code.digits) ≡ a + 256 * b = ap (λ ds. two_bytes (shifted_all 0 ds)) digits.is ∙ two-read a b in
    let after : code.after ≡ CellBody (ErrMark (a + 256 * b)) = cc (code.goes, value) in
    let mark = cell-at (ErrMark (a + 256 * b)) code.others next (rw after at code.reads) in
    marked a b mark.b mark.others code.digits code.others (nat_eq mark.b 35) mark.after digits.is code.is mark.is refl mark.goes mark.reads where
      marked : (a b m : ℕ) (others digits behind : List ℕ) (is_mark : Bool) (after : Body) → digits ≡ a ∷ b ∷ [] → bytes ≡ digits ++ behind → behind ≡ m ∷ others → nat_eq m 35 ≡ is_mark → cond is_mark (Some (Rest (Ends (err_end (a + 256 * b))))) None ≡ Some after → read_body after others ≡ Some (Rest next) → Class due (255 ∷ bytes) next
      marked a b m others digits behind false after is_digits is_bytes is_behind mark goes left = absurd (cc)
      marked a b m others digits behind true after is_digits is_bytes is_behind mark goes left =
          let hash : m ≡ 35 = nat_eq-true m 35 mark in
          let whole : bytes ≡ a ∷ b ∷ 35 ∷ others = is_bytes ∙ ap (λ ds. ds ++ behind) is_digits ∙ ap (λ bs. a ∷ b ∷ bs) (is_behind ∙ ap (λ h. h ∷ others) hash) in
          let last : after ≡ Rest (Ends (err_end (a + 256 * b))) = cc in
          let same : next ≡ Ends (err_end (a + 256 * b)) = rest-same (Ends (err_end (a + 256 * b))) next others (rw last at left) in
          let size : 5 ≤ length others = omega (arith, ap length whole) in
          let all : 255 ∷ bytes ≡ 255 ∷ a ∷ b ∷ 35 ∷ (take 5 others ++ drop 5 others) = ap (λ bs. 255 ∷ bs) (whole ∙ ap (λ bs. a ∷ b ∷ 35 ∷ bs) (sym (take-append-drop 5 others))) in
          let low : a < 256 = byte_of (255 ∷ []) (b ∷ 35 ∷ others) (255 ∷ bytes) a (ap (λ bs. 255 ∷ bs) whole) are in
          let high : b < 256 = byte_of (255 ∷ a ∷ []) (35 ∷ others) (255 ∷ bytes) b (ap (λ bs. 255 ∷ bs) whole) are in
          ErrClass (a + 256 * b) may (record { a = a; b = b; state = take 5 others; message = drop 5 others; is = all; error_code = record { low = low; high = high; is = refl }; sql_state = length-take-le 5 others size }) same

-- four bytes are two numbers of two
pub record Pair (a b c d n : ℕ) : Type 0 where
  pub first : IsTwo a b (n % 65536)
  pub second : IsTwo c d (n / 65536)

pub pair : (a b c d n : ℕ) → a < 256 → b < 256 → c < 256 → d < 256 → n ≡ a + 256 * (b + 256 * (c + 256 * d)) → Pair a b c d n
pair a b c d n sa sb sc sd is = record { first = record { low = sa; high = sb; is = omega arith }; second = record { low = sc; high = sd; is = omega arith } }

-- an EOF
pub class_eof : (due : Due) (eof : Eof) (bytes : List ℕ) (next : Next) → AreBytes (254 ∷ bytes) → eof_of due ≡ Some eof → length (254 ∷ bytes) < 9 → read_body (number_of (EofNumber eof) 4) bytes ≡ Some (Rest next) → Class due (254 ∷ bytes) next
class_eof due eof bytes next are may short reads =
    let number = number-at (EofNumber eof) next bytes 4 0 (lit< tt) reads in
    let digits = four_digits number.digits number.count in
    let w : ℕ = digits.a in
    let v : ℕ = digits.b in
    let f : ℕ = digits.c in
    let g : ℕ = digits.d in
    let n : ℕ = four_bytes (shifted_all 0 number.digits) in
    let value : n ≡ w + 256 * (v + 256 * (f + 256 * g)) = ap (λ ds. four_bytes (shifted_all 0 ds)) digits.is ∙ four-read w v f g in
    let last : number.after ≡ Rest (after_eof eof (n / 65536) (n % 65536)) = same_some (Rest (after_eof eof (n / 65536) (n % 65536))) number.after number.goes in
    let same : next ≡ after_eof eof (n / 65536) (n % 65536) = rest-same (after_eof eof (n / 65536) (n % 65536)) next number.others (rw last at number.reads) in
    let whole : 254 ∷ bytes ≡ 254 ∷ w ∷ v ∷ f ∷ g ∷ number.others = ap (λ bs. 254 ∷ bs) (number.is ∙ ap (λ ds. ds ++ number.others) digits.is) in
    let sw : w < 256 = byte_of (254 ∷ []) (v ∷ f ∷ g ∷ number.others) (254 ∷ bytes) w whole are in
    let sv : v < 256 = byte_of (254 ∷ w ∷ []) (f ∷ g ∷ number.others) (254 ∷ bytes) v whole are in
    let sf : f < 256 = byte_of (254 ∷ w ∷ v ∷ []) (g ∷ number.others) (254 ∷ bytes) f whole are in
    let sg : g < 256 = byte_of (254 ∷ w ∷ v ∷ f ∷ []) number.others (254 ∷ bytes) g whole are in
    let halves = pair w v f g n sw sv sf sg value in
    EofClass eof (n / 65536) (n % 65536) may (record { w = w; v = v; f = f; g = g; more = number.others; is = whole; short = short; warning_count = halves.first; status_flags = halves.second }) same

-- an OK
class_ok : (bytes : List ℕ) (next : Next) → AreBytes (0 ∷ bytes) → read_body (CellBody RowsFirst) bytes ≡ Some (Rest next) → Class ResultDue (0 ∷ bytes) next
class_ok bytes next are reads =
    let rows = rows-at bytes next reads in
    let insert = insert-at rows.others next rows.reads in
    let number = number-at (Flags insert.insert_id) next insert.others 4 0 (lit< tt) insert.reads in
    let digits = four_digits number.digits number.count in
    let f : ℕ = digits.a in
    let g : ℕ = digits.b in
    let w : ℕ = digits.c in
    let v : ℕ = digits.d in
    let info : List ℕ = number.others in
    let n : ℕ = four_bytes (shifted_all 0 number.digits) in
    let value : n ≡ f + 256 * (g + 256 * (w + 256 * v)) = ap (λ ds. four_bytes (shifted_all 0 ds)) digits.is ∙ four-read f g w v in
    let ends : Next = after_result (n % 65536) (ok_end (n % 65536) (n / 65536) insert.insert_id) in
    let last : number.after ≡ Rest ends = same_some (Rest ends) number.after number.goes in
    let same : next ≡ ends = rest-same ends next info (rw last at number.reads) in
    let tail : insert.others ≡ f ∷ g ∷ w ∷ v ∷ info = number.is ∙ ap (λ ds. ds ++ info) digits.is in
    let whole : 0 ∷ bytes ≡ 0 ∷ (rows.rows ++ (insert.insert ++ (f ∷ g ∷ w ∷ v ∷ info))) = ap (λ bs. 0 ∷ bs) (rows.is ∙ ap (λ bs. rows.rows ++ bs) (insert.is ∙ ap (λ bs. insert.insert ++ bs) tail)) in
    let front : List ℕ = 0 ∷ (rows.rows ++ insert.insert) in
    let joined : 0 ∷ bytes ≡ front ++ (f ∷ g ∷ w ∷ v ∷ info) = whole ∙ ap (λ bs. 0 ∷ bs) (sym (append_assoc rows.rows insert.insert (f ∷ g ∷ w ∷ v ∷ info))) in
    let sf : f < 256 = byte_of front (g ∷ w ∷ v ∷ info) (0 ∷ bytes) f joined are in
    let sg : g < 256 = byte_of (front ++ f ∷ []) (w ∷ v ∷ info) (0 ∷ bytes) g (joined ∙ sym (append_assoc front (f ∷ []) (g ∷ w ∷ v ∷ info))) are in
    let sw : w < 256 = byte_of (front ++ f ∷ g ∷ []) (v ∷ info) (0 ∷ bytes) w (joined ∙ sym (append_assoc front (f ∷ g ∷ []) (w ∷ v ∷ info))) are in
    let sv : v < 256 = byte_of (front ++ f ∷ g ∷ w ∷ []) info (0 ∷ bytes) v (joined ∙ sym (append_assoc front (f ∷ g ∷ w ∷ []) (v ∷ info))) are in
    let halves = pair f g w v n sf sg sw sv value in
    OkClass (n % 65536) (n / 65536) insert.insert_id refl
    (record { rows = rows.rows; affected = rows.affected; insert = insert.insert; f = f; g = g; w = w; v = v; info = info; is = whole; affected_rows = rows.number; last_insert_id = insert.number; status_flags = halves.first; warning_count = halves.second }) same

-- a column count
record Zeros (n : ℕ) (bytes : List ℕ) (next : Next) : Type 0 where
  pub none : little_endian bytes ≡ 0
  pub same : next ≡ Goes (Definition n RowsBehind)

zeros_at : (n : ℕ) (next : Next) (bytes : List ℕ) → read_body (count_taken n (length bytes)) bytes ≡ Some (Rest next) → Zeros n bytes next
zeros_at n next [] is = record { none = refl; same = cc }
zeros_at n next (b ∷ bytes) is =
    let start : count_taken n (length (b ∷ bytes)) ≡ CellBody (CountZero n (length bytes)) = rw (some (length bytes)) (ap (λ k. CellBody (CountZero n k)) (less (length bytes))) in
    let at = cell-at (CountZero n (length bytes)) (b ∷ bytes) next (rw start at is) in
    let first : at.b ≡ b = cc (at.is) in
    let rest : at.others ≡ bytes = cc (at.is) in
    zero_at (nat_eq at.b 0) at.b at.others at.after refl at.goes at.reads first rest (zeros_at n next bytes) where
      some : (k : ℕ) → nat_eq (suc k) 0 ≡ false
      some k = grind (arith, nat_tests)

      less : (k : ℕ) → suc k - 1 ≡ k
      less k = omega arith

      zero_at : (none : Bool) (c : ℕ) (others : List ℕ) (after : Body) → nat_eq c 0 ≡ none → cond none (Some (count_taken n (length bytes))) None ≡ Some after → read_body after others ≡ Some (Rest next) → c ≡ b → others ≡ bytes → (read_body (count_taken n (length bytes)) bytes ≡ Some (Rest next) → Zeros n bytes next) → Zeros n (b ∷ bytes) next
      zero_at false c others after none goes reads first rest behind = absurd (cc)
      zero_at true c others after none goes reads first rest behind =
          let same : after ≡ count_taken n (length bytes) = cc in
          let others_read : read_body (count_taken n (length bytes)) bytes ≡ Some (Rest next) = rw (same, rest) at reads in
          let more = behind others_read in
          record { none = omega (arith, more.none, nat_eq-true c 0 none); same = more.same }

-- the bytes behind the first one of a column count of several
class_count : (first size : ℕ) (bytes : List ℕ) (next : Next) → AreBytes (first ∷ bytes) → 251 ≤ first → size_behind first ≡ Some (suc (suc size)) → length bytes ≡ suc (suc size) → read_body (number_of (Count size) 2) bytes ≡ Some (Rest next) → Class ResultDue (first ∷ bytes) next
class_count first size bytes next are big sized_by long reads =
    let number = number-at (Count size) next bytes 2 0 (lit< tt) reads in
    let digits = two number.digits number.count in
    let a : ℕ = digits.a in
    let b : ℕ = digits.b in
    let n : ℕ = two_bytes (shifted_all 0 number.digits) in
    let value : n ≡ a + 256 * b = ap (λ ds. two_bytes (shifted_all 0 ds)) digits.is ∙ two-read a b in
    let whole : bytes ≡ a ∷ b ∷ number.others = number.is ∙ ap (λ ds. ds ++ number.others) digits.is in
    let sa : a < 256 = byte_of (first ∷ []) (b ∷ number.others) (first ∷ bytes) a (ap (λ bs. first ∷ bs) whole) are in
    let sb : b < 256 = byte_of (first ∷ a ∷ []) number.others (first ∷ bytes) b (ap (λ bs. first ∷ bs) whole) are in
    let left : length number.others ≡ size = omega (arith, ap length whole) in
    counted n a b number.others number.after (nat_eq n 0) value whole sa sb left refl number.goes number.reads where
      counted : (n a b : ℕ) (others : List ℕ) (after : Body) (none : Bool) → n ≡ a + 256 * b → bytes ≡ a ∷ b ∷ others → a < 256 → b < 256 → length others ≡ size → nat_eq n 0 ≡ none → cond none None (Some (count_taken n size)) ≡ Some after → read_body after others ≡ Some (Rest next) → Class ResultDue (first ∷ bytes) next
      counted n a b others after true value whole sa sb left none goes back = absurd (cc)
      counted n a b others after false value whole sa sb left none goes back =
          let same : after ≡ count_taken n (length others) = cc in
          let zeros = zeros_at n next others (rw same at back) in
          let some : 0 < n = omega (arith, nat_eq-false n 0 none) in
          let all : n ≡ little_endian (a ∷ b ∷ others) = omega (arith, zeros.none) in
          let big_one : n ≡ cond (nat_lt first 251) first (little_endian (a ∷ b ∷ others)) = all ∙ rw (le-ltb first 251 big) refl in
          let sizes : size_behind first ≡ Some (length (a ∷ b ∷ others)) = sized_by ∙ ap (λ k. Some (suc (suc k))) (sym left) in
          CountClass n refl (record { number = record { first = first; others = a ∷ b ∷ others; is = ap (λ bs. first ∷ bs) whole; sized = sizes; value = big_one }; some = some; most = omega arith }) zeros.same

class_count_one : (b : ℕ) (bytes : List ℕ) (next : Next) → 0 < b → b ≤ 250 → length (b ∷ bytes) ≡ 1 → read_body (count_taken b 0) bytes ≡ Some (Rest next) → Class ResultDue (b ∷ bytes) next
class_count_one b [] next some most one reads =
    let lone : size_behind b ≡ Some 0 = rw (lt-ltb b 251 (omega arith)) refl in
    let itself : b ≡ cond (nat_lt b 251) b 0 = rw (lt-ltb b 251 (omega arith)) refl in
    CountClass b refl (record { number = record { first = b; others = []; is = refl; sized = lone; value = itself }; some = some; most = omega arith }) (cc)
class_count_one b (c ∷ bytes) next some most one reads = absurd (omega arith)

pub guarded : (test : Bool) (x body : Body) → cond test (Some x) None ≡ Some body → (test ≡ true) × (body ≡ x)
guarded true x body is = (refl, cc)
guarded false x body is = absurd (cc)

pub class_result : (b : ℕ) (bytes : List ℕ) (next : Next) (body : Body) (zero_b low two_b three_b eight_b : Bool) → AreBytes (b ∷ bytes) → nat_eq b 0 ≡ zero_b → nat_le b 250 ≡ low → nat_eq b 252 ≡ two_b → nat_eq b 253 ≡ three_b → nat_eq b 254 ≡ eight_b
    → cond zero_b (cond (nat_le 7 (length (b ∷ bytes))) (Some (CellBody RowsFirst)) None) (cond low (cond (nat_eq (length (b ∷ bytes)) 1) (Some (count_taken b 0)) None) (cond two_b (cond (nat_eq (length (b ∷ bytes)) 3) (Some (number_of (Count 0) 2)) None) (cond three_b (cond (nat_eq (length (b ∷ bytes)) 4) (Some (number_of (Count 1) 2)) None) (cond eight_b (cond (nat_eq (length (b ∷ bytes)) 9) (Some (number_of (Count 6) 2)) None) None)))) ≡ Some body
    → read_body body bytes ≡ Some (Rest next) → Class ResultDue (b ∷ bytes) next
class_result b bytes next body true low two_b three_b eight_b are ez el e2 e3 e8 is reads =
    let parts = guarded (nat_le 7 (length (b ∷ bytes))) (CellBody RowsFirst) body is in
    let none : b ≡ 0 = nat_eq-true b 0 ez in
    subst (λ x. Class ResultDue (x ∷ bytes) next) (sym none) (class_ok bytes next (rw none at are) (rw parts.1 at reads))
class_result b bytes next body false true two_b three_b eight_b are ez el e2 e3 e8 is reads =
    let parts = guarded (nat_eq (length (b ∷ bytes)) 1) (count_taken b 0) body is in
    class_count_one b bytes next (omega (arith, nat_eq-false b 0 ez)) (leb-true b 250 el) (nat_eq-true (length (b ∷ bytes)) 1 parts.0) (rw parts.1 at reads)
class_result b bytes next body false false true three_b eight_b are ez el e2 e3 e8 is reads =
    let parts = guarded (nat_eq (length (b ∷ bytes)) 3) (number_of (Count 0) 2) body is in
    let first : b ≡ 252 = nat_eq-true b 252 e2 in
    let long = nat_eq-true (length (b ∷ bytes)) 3 parts.0 in
    class_count b 0 bytes next are (omega arith) (ap size_behind first) (omega arith) (rw parts.1 at reads)
class_result b bytes next body false false false true eight_b are ez el e2 e3 e8 is reads =
    let parts = guarded (nat_eq (length (b ∷ bytes)) 4) (number_of (Count 1) 2) body is in
    let first : b ≡ 253 = nat_eq-true b 253 e3 in
    let long = nat_eq-true (length (b ∷ bytes)) 4 parts.0 in
    class_count b 1 bytes next are (omega arith) (ap size_behind first) (omega arith) (rw parts.1 at reads)
class_result b bytes next body false false false false true are ez el e2 e3 e8 is reads =
    let parts = guarded (nat_eq (length (b ∷ bytes)) 9) (number_of (Count 6) 2) body is in
    let first : b ≡ 254 = nat_eq-true b 254 e8 in
    let long = nat_eq-true (length (b ∷ bytes)) 9 parts.0 in
    class_count b 6 bytes next are (omega arith) (ap size_behind first) (omega arith) (rw parts.1 at reads)
class_result b bytes next body false false false false false are ez el e2 e3 e8 is reads = absurd (cc)
