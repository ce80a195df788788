-- The class of each payload that was read to its end, and of the payload that its first packet begins.
use Rattle.std.proofs.Common.{◌≡◌, ◌≢◌, ◌≤◌, ◌<◌, ℕ, suc, ◌+◌, ◌*◌, ◌/◌, ◌%◌, Bool, true, false, cond, ◌&&◌, nat_le, nat_eq, Option, Some, None, List, [], ◌∷◌, ◌++◌, length, take, drop, refl, ◌∙◌, sym, ap, subst, arith, append_assoc, lit<}
use Rattle.mx_base.specs.Fields.{AreBytes}
use Rattle.packet_frame.specs.PacketLaws.{nat_eq-true}
use Rattle.reply_track.specs.declared.due.Due.{Due}
use Rattle.reply_track.specs.declared.due.Due.TheVariants.{Result as ResultDue, Answer, Listing, Definition, End, Row, Field}
use Rattle.reply_track.specs.declared.due.Next.{Next}
use Rattle.reply_track.specs.declared.due.Next.TheVariants.{Goes}
use Rattle.reply_track.specs.declared.head.Cell.TheVariants.{Filler}
use Rattle.reply_track.specs.declared.head.Number.TheVariants.{Statement, Shape, Warnings}
use Rattle.reply_track.specs.declared.body.Body.{Body}
use Rattle.reply_track.specs.declared.body.Body.TheVariants.{Due as DueBody, Cell as CellBody, Rest}
use Rattle.reply_track.specs.Payloads.{four, IsNumber, IsEof, IsCount, IsPrepared}
use Rattle.reply_track.specs.Steps.{rest_due, after_plain, after_prepared, opened, opened_by, number_of, two_bytes, four_bytes}
use Rattle.reply_track.proofs.Crossing.{read_by-some, read_body}
use Rattle.reply_track.proofs.Messages.{part_read}
use Rattle.reply_track.proofs.Feeding.{shifted_all, two-read, four-read}
use Rattle.reply_track.proofs.Beginnings.{sized, sized-most}
use Rattle.std.proofs.lemmas.List.{take-append-drop, length-take, take_all, get_or-take}
use Rattle.packet_frame.specs.Packets.{longest}
use Rattle.reply_track.proofs.Inverse.{cell-at, number-at, two, four_digits, rest-same, Opened, opened-by}
use Rattle.reply_track.proofs.Inverse.Opened.{ByErr, ByEof, ByOther}
use Rattle.reply_track.proofs.Classed.{Class, pair, class_err, class_eof, class_result, guarded, same_some}
use Rattle.reply_track.proofs.Classed.Class.{ErrClass, EofClass, PlainClass, OkClass, CountClass, PreparedClass}

-- the answer to a prepare
class_prepared : (bytes : List ℕ) (next : Next) → AreBytes (0 ∷ bytes) → length (0 ∷ bytes) ≡ 12 → read_body (number_of Statement 4) bytes ≡ Some (Rest next) → Class Answer (0 ∷ bytes) next
class_prepared bytes next are long reads =
    let one = number-at Statement next bytes 4 0 (lit< tt) reads in
    let ones = four_digits one.digits one.count in
    let number : ℕ = four_bytes (shifted_all 0 one.digits) in
    let after_one : one.after ≡ number_of (Shape number) 4 = same_some (number_of (Shape number) 4) one.after one.goes in
    let shape = number-at (Shape number) next one.others 4 0 (lit< tt) (rw after_one at one.reads) in
    let shapes = four_digits shape.digits shape.count in
    let n : ℕ = four_bytes (shifted_all 0 shape.digits) in
    let after_shape : shape.after ≡ CellBody (Filler number (n % 65536) (n / 65536)) = same_some (CellBody (Filler number (n % 65536) (n / 65536))) shape.after shape.goes in
    let filler = cell-at (Filler number (n % 65536) (n / 65536)) shape.others next (rw after_shape at shape.reads) in
    let filled = guarded (nat_eq filler.b 0) (number_of (Warnings number (n % 65536) (n / 65536)) 2) filler.after filler.goes in
    let last = number-at (Warnings number (n % 65536) (n / 65536)) next filler.others 2 0 (lit< tt) (rw filled.1 at filler.reads) in
    let lasts = two last.digits last.count in
    let warnings : ℕ = two_bytes (shifted_all 0 last.digits) in
    let ends : Next = after_prepared (n % 65536) (record { number = number; params = n / 65536; warnings = warnings }) in
    let after_last : last.after ≡ Rest ends = same_some (Rest ends) last.after last.goes in
    let same : next ≡ ends = rest-same ends next last.others (rw after_last at last.reads) in
    let whole : 0 ∷ bytes ≡ 0 ∷ ones.a ∷ ones.b ∷ ones.c ∷ ones.d ∷ shapes.a ∷ shapes.b ∷ shapes.c ∷ shapes.d ∷ 0 ∷ lasts.a ∷ lasts.b ∷ last.others =
    ap (λ bs. 0 ∷ bs) (one.is ∙ ap (λ ds. ds ++ one.others) ones.is
    ∙ ap (λ bs. ones.a ∷ ones.b ∷ ones.c ∷ ones.d ∷ bs) (shape.is ∙ ap (λ ds. ds ++ shape.others) shapes.is
    ∙ ap (λ bs. shapes.a ∷ shapes.b ∷ shapes.c ∷ shapes.d ∷ bs) (filler.is ∙ ap (λ x. x ∷ filler.others) (nat_eq-true filler.b 0 filled.0)
    ∙ ap (λ bs. 0 ∷ bs) (last.is ∙ ap (λ ds. ds ++ last.others) lasts.is)))) in
    let none : last.others ≡ [] = no_more last.others (omega (arith, ap length whole)) in
    let all : 0 ∷ bytes ≡ 0 ∷ ones.a ∷ ones.b ∷ ones.c ∷ ones.d ∷ shapes.a ∷ shapes.b ∷ shapes.c ∷ shapes.d ∷ 0 ∷ lasts.a ∷ lasts.b ∷ [] = whole ∙ ap (λ bs. 0 ∷ ones.a ∷ ones.b ∷ ones.c ∷ ones.d ∷ shapes.a ∷ shapes.b ∷ shapes.c ∷ shapes.d ∷ 0 ∷ lasts.a ∷ lasts.b ∷ bs) none in
    let is : AreBytes (0 ∷ ones.a ∷ ones.b ∷ ones.c ∷ ones.d ∷ shapes.a ∷ shapes.b ∷ shapes.c ∷ shapes.d ∷ 0 ∷ lasts.a ∷ lasts.b ∷ []) = subst AreBytes all are in
    let value_one : number ≡ four ones.a ones.b ones.c ones.d = ap (λ ds. four_bytes (shifted_all 0 ds)) ones.is ∙ four-read ones.a ones.b ones.c ones.d in
    let value_shape : n ≡ shapes.a + 256 * (shapes.b + 256 * (shapes.c + 256 * shapes.d)) = ap (λ ds. four_bytes (shifted_all 0 ds)) shapes.is ∙ four-read shapes.a shapes.b shapes.c shapes.d in
    let value_last : warnings ≡ lasts.a + 256 * lasts.b = ap (λ ds. two_bytes (shifted_all 0 ds)) lasts.is ∙ two-read lasts.a lasts.b in
    let halves = pair shapes.a shapes.b shapes.c shapes.d n (is 5) (is 6) (is 7) (is 8) value_shape in
    PreparedClass number (n % 65536) (n / 65536) warnings refl (record {
      a = ones.a;
      b = ones.b;
      c = ones.c;
      d = ones.d;
      e = shapes.a;
      f = shapes.b;
      g = shapes.c;
      h = shapes.d;
      w = lasts.a;
      v = lasts.b;
      is = all;
      statement = value_one;
      column_count = halves.first;
      param_count = halves.second;
      warning_count = record { low = is 10; high = is 11; is = value_last };
    }) same where
      no_more : (bytes : List ℕ) → length bytes ≡ 0 → bytes ≡ []
      no_more [] none = refl
      no_more (b ∷ bytes) none = absurd (omega arith)

-- a definition or a row
class_plain : (due goes : Due) (b : ℕ) (bytes : List ℕ) (next : Next) → b ≢ 255 → (b ≡ 254 → 5 ≤ length (b ∷ bytes) → length (b ∷ bytes) < 9 → ⊥) → after_plain due ≡ Some goes → read_body (Rest (Goes goes)) bytes ≡ Some (Rest next) → Class due (b ∷ bytes) next
class_plain due goes b bytes next no_err no_eof may reads =
    PlainClass goes may (record { no_err = no_err; no_eof = λ others is least most. no_eof (first_of b 254 bytes others is) least most }) (rest-same (Goes goes) next bytes reads) where
      first_of : (x y : ℕ) (xs ys : List ℕ) → x ∷ xs ≡ y ∷ ys → x ≡ y
      first_of x y xs ys is = cc

plain_due : (found : Option Due) (body : Body) → rest_due found ≡ Some body → (goes : Due) × (found ≡ Some goes) × (body ≡ Rest (Goes goes))
plain_due None body is = absurd (cc)
plain_due (Some goes) body is = (goes, refl, cc)

class_by : (due : Due) (b : ℕ) (bytes : List ℕ) (next : Next) (body : Body) → AreBytes (b ∷ bytes) → b ≢ 255 → (b ≡ 254 → 5 ≤ length (b ∷ bytes) → length (b ∷ bytes) < 9 → ⊥) → opened_by due (length (b ∷ bytes)) b ≡ Some body → read_body body bytes ≡ Some (Rest next) → Class due (b ∷ bytes) next
class_by ResultDue b bytes next body are no_err no_eof is reads = class_result b bytes next body (nat_eq b 0) (nat_le b 250) (nat_eq b 252) (nat_eq b 253) (nat_eq b 254) are refl refl refl refl refl is reads
class_by Answer b bytes next body are no_err no_eof is reads = answered (nat_eq b 0) (nat_eq (length (b ∷ bytes)) 12) refl refl is where
  answered : (p q : Bool) → nat_eq b 0 ≡ p → nat_eq (length (b ∷ bytes)) 12 ≡ q → cond (p && q) (Some (number_of Statement 4)) None ≡ Some body → Class Answer (b ∷ bytes) next
  answered true true first long goes =
      let none : b ≡ 0 = nat_eq-true b 0 first in
      let same : body ≡ number_of Statement 4 = cc in
      subst (λ x. Class Answer (x ∷ bytes) next) (sym none) (class_prepared bytes next (rw none at are) (nat_eq-true (length (b ∷ bytes)) 12 long) (rw same at reads))
  answered true false first long goes = absurd (cc)
  answered false q first long goes = absurd (cc)
class_by Listing b bytes next body are no_err no_eof is reads = let found = plain_due (Some Field) body is in class_plain Listing found.0 b bytes next no_err no_eof found.1 (rw found.2 at reads)
class_by (Definition left behind) b bytes next body are no_err no_eof is reads = let found = plain_due (after_plain (Definition left behind)) body is in class_plain (Definition left behind) found.0 b bytes next no_err no_eof found.1 (rw found.2 at reads)
class_by (End behind) b bytes next body are no_err no_eof is reads = absurd (cc)
class_by Row b bytes next body are no_err no_eof is reads = let found = plain_due (Some Row) body is in class_plain Row found.0 b bytes next no_err no_eof found.1 (rw found.2 at reads)
class_by Field b bytes next body are no_err no_eof is reads = let found = plain_due (Some Field) body is in class_plain Field found.0 b bytes next no_err no_eof found.1 (rw found.2 at reads)

class_opened : (due : Due) (b : ℕ) (bytes : List ℕ) (next : Next) (body : Body) → AreBytes (b ∷ bytes) → Opened due (length (b ∷ bytes)) b body → read_body body bytes ≡ Some (Rest next) → Class due (b ∷ bytes) next
class_opened due b bytes next body are (ByErr first may long is) reads = subst (λ x. Class due (x ∷ bytes) next) (sym first) (class_err due bytes next (rw first at are) may long (rw is at reads))
class_opened due b bytes next body are (ByEof eof first least most may is) reads = subst (λ x. Class due (x ∷ bytes) next) (sym first) (class_eof due eof bytes next (rw first at are) may most (rw is at reads))
class_opened due b bytes next body are (ByOther no_err no_eof is) reads = class_by due b bytes next body are no_err no_eof is reads

class_part : (due : Due) (part : List ℕ) (next : Next) → AreBytes part → part_read (DueBody due) part ≡ Some (Rest next) → Class due part next
class_part due [] next are is =
    let found = plain_due (after_plain due) (Rest next) is in
    PlainClass found.0 found.1 (record { no_err = λ e. omega arith; no_eof = λ others e least most. omega arith }) (cc (found.2))
class_part due (b ∷ bytes) next are is =
    let found = read_by-some (opened due (length (b ∷ bytes)) b) (λ (n : Body). read_body n bytes) (Rest next) is in
    class_opened due b bytes next found.0 are (opened-by due (length (b ∷ bytes)) b found.0 found.1) found.2

-- the rest of a long payload doesn't matter
short_payload : (payload : List ℕ) → length (take longest payload) < longest → take longest payload ≡ payload
short_payload payload short = take_all longest payload (omega (arith, length-take longest payload))

number_size : (bytes : List ℕ) (n : ℕ) → IsNumber bytes n → length bytes ≤ 9
number_size bytes n is =
    let size : length bytes ≡ suc (length is.others) = ap length is.is in
    omega (arith, size, sized-most is.first (length is.others) (sized is.first (length is.others) is.sized))

class_longer : (due : Due) (payload : List ℕ) (next : Next) → Class due (take longest payload) next → Class due payload next
class_longer due payload next (ErrClass code may err is) =
    let whole : payload ≡ 255 ∷ err.a ∷ err.b ∷ 35 ∷ (err.state ++ (err.message ++ drop longest payload)) = sym (take-append-drop longest payload) ∙ ap (λ bs. bs ++ drop longest payload) err.is ∙ ap (λ bs. 255 ∷ err.a ∷ err.b ∷ 35 ∷ bs) (append_assoc err.state err.message (drop longest payload)) in
    ErrClass code may (record { a = err.a; b = err.b; state = err.state; message = err.message ++ drop longest payload; is = whole; error_code = err.error_code; sql_state = err.sql_state }) is
class_longer due payload next (EofClass eof flags warnings may ends is) =
    EofClass eof flags warnings may (subst (λ bs. IsEof bs flags warnings) (short_payload payload (omega (arith, ends.short))) ends) is
class_longer due payload next (PlainClass goes may plain is) = PlainClass goes may (record {
  no_err = rw (← get_or-take longest payload 0 0 (lit< tt)) plain.no_err;
  no_eof = λ others e least most.
      let same : take longest payload ≡ payload = take_all longest payload (omega arith) in
      plain.no_eof others (same ∙ e) (rw (← same) at least) (rw (← same) at most);
}) is
class_longer due payload next (OkClass flags warnings insert_id may ok is) =
    let last : List ℕ = ok.f ∷ ok.g ∷ ok.w ∷ ok.v ∷ ok.info in
    let more : List ℕ = drop longest payload in
    let whole : payload ≡ 0 ∷ (ok.rows ++ (ok.insert ++ (ok.f ∷ ok.g ∷ ok.w ∷ ok.v ∷ (ok.info ++ more)))) = sym (take-append-drop longest payload) ∙ ap (λ bs. bs ++ more) ok.is ∙ ap (λ bs. 0 ∷ bs) (append_assoc ok.rows (ok.insert ++ last) more ∙ ap (λ bs. ok.rows ++ bs) (append_assoc ok.insert last more)) in
    OkClass flags warnings insert_id may (record { rows = ok.rows; affected = ok.affected; insert = ok.insert; f = ok.f; g = ok.g; w = ok.w; v = ok.v; info = ok.info ++ more; is = whole; affected_rows = ok.affected_rows; last_insert_id = ok.last_insert_id; status_flags = ok.status_flags; warning_count = ok.warning_count }) is
class_longer due payload next (CountClass n may count is) =
    let size = number_size (take longest payload) n count.number in
    CountClass n may (subst (λ bs. IsCount bs n) (short_payload payload (omega arith)) count) is
class_longer due payload next (PreparedClass number columns params warnings may prepared is) =
    let size : length (take longest payload) ≡ 12 = ap length prepared.is in
    PreparedClass number columns params warnings may (subst (λ bs. IsPrepared bs number columns params warnings) (short_payload payload (omega arith)) prepared) is

pub class-of : (due : Due) (payload : List ℕ) (next : Next) → AreBytes (take longest payload) → part_read (DueBody due) (take longest payload) ≡ Some (Rest next) → Class due payload next
class-of due payload next are is = class_longer due payload next (class_part due (take longest payload) next are is)
