-- What the fields of a payload were, where it was read to its end.
use Rattle.std.proofs.Common.{◌≡◌, ◌≢◌, ◌⊎◌, inl, inr, ◌≤◌, ◌<◌, ℕ, ◌+◌, ◌-◌, Bool, true, false, cond, ◌&&◌, nat_le, nat_lt, nat_eq, Option, Some, None, List, [], ◌∷◌, ◌++◌, length, refl, ◌∙◌, sym, ap, arith}
use Rattle.std.proofs.lemmas.Bool.{leb-true, leb-false, lt-ltb, le-ltb}
use Rattle.std.proofs.lemmas.Bool.Decides.{nat_tests}
use Rattle.mx_base.specs.Fields.{little_endian}
use Rattle.packet_frame.specs.PacketLaws.{nat_eq-true, nat_eq-false}
use Rattle.reply_track.specs.declared.due.Due.{Due}
use Rattle.reply_track.specs.declared.due.Next.{Next}
use Rattle.reply_track.specs.declared.head.Eof.{Eof}
use Rattle.reply_track.specs.declared.head.Cell.{Cell}
use Rattle.reply_track.specs.declared.head.Cell.TheVariants.{RowsFirst, InsertFirst}
use Rattle.reply_track.specs.declared.head.Number.{Number}
use Rattle.reply_track.specs.declared.head.Number.TheVariants.{Rows as RowsNumber, Insert, Flags, Code, Eof as EofNumber}
use Rattle.reply_track.specs.declared.body.Body.{Body}
use Rattle.reply_track.specs.declared.body.Body.TheVariants.{Cell as CellBody, Number as NumberBody, Rest}
use Rattle.reply_track.specs.Payloads.{size_behind, IsNumber}
use Rattle.reply_track.specs.Steps.{cell_taken, opened, opened_by, takes_err, is_short, eof_of, eof_body, number_of, rows_by, insert_by, number_read, number_taken, shifted, insert_scaled}
use Rattle.reply_track.proofs.Crossing.{read_by-some, read_body}
use Rattle.reply_track.proofs.Messages.{rest-read}
use Rattle.reply_track.proofs.Feeding.{shifted_all, insert-read}
use Rattle.reply_track.proofs.Beginnings.{IsSized, sized}

-- a field of one byte
pub record CellAt (cell : Cell) (bytes : List ℕ) (next : Next) : Type 0 where
  pub b : ℕ
  pub others : List ℕ
  pub after : Body
  pub is : bytes ≡ b ∷ others
  pub goes : cell_taken cell (length (b ∷ others)) b ≡ Some after
  pub reads : read_body after others ≡ Some (Rest next)

pub cell-at : (cell : Cell) (bytes : List ℕ) (next : Next) → read_body (CellBody cell) bytes ≡ Some (Rest next) → CellAt cell bytes next
cell-at cell [] next is = absurd (cc)
cell-at cell (b ∷ bytes) next is =
    let found = read_by-some (cell_taken cell (length (b ∷ bytes)) b) (λ (n : Body). read_body n bytes) (Rest next) is in
    record { b = b; others = bytes; after = found.0; is = refl; goes = found.1; reads = found.2 }

-- a number
pub record NumberAt (field : Number) (size value : ℕ) (bytes : List ℕ) (next : Next) : Type 0 where
  pub digits : List ℕ
  pub others : List ℕ
  pub after : Body
  pub is : bytes ≡ digits ++ others
  pub count : length digits ≡ size
  pub goes : number_read field (shifted_all value digits) ≡ Some after
  pub reads : read_body after others ≡ Some (Rest next)

number_by : (field : Number) (next : Next) (size value b : ℕ) (bytes : List ℕ) (one : Bool) (found : Body) → 0 < size → nat_le size 1 ≡ one → cond one (number_read field (shifted value b)) (Some (NumberBody field (size - 1) (shifted value b))) ≡ Some found → read_body found bytes ≡ Some (Rest next)
    → ((s v : ℕ) → 0 < s → read_body (NumberBody field s v) bytes ≡ Some (Rest next) → NumberAt field s v bytes next) → NumberAt field size value (b ∷ bytes) next
number_by field next size value b bytes true found some last goes reads others =
    record { digits = b ∷ []; others = bytes; after = found; is = refl; count = omega (arith, leb-true size 1 last); goes = goes; reads = reads }
number_by field next size value b bytes false found some last goes reads others =
    let same : found ≡ NumberBody field (size - 1) (shifted value b) = cc in
    let more : 1 < size = leb-false size 1 last in
    let behind = others (size - 1) (shifted value b) (omega arith) (rw same at reads) in
    record { digits = b ∷ behind.digits; others = behind.others; after = behind.after; is = ap (λ bs. b ∷ bs) behind.is; count = omega (arith, behind.count); goes = behind.goes; reads = behind.reads }

pub number-at : (field : Number) (next : Next) (bytes : List ℕ) (size value : ℕ) → 0 < size → read_body (NumberBody field size value) bytes ≡ Some (Rest next) → NumberAt field size value bytes next
number-at field next [] size value some is = absurd (cc)
number-at field next (b ∷ bytes) size value some is =
    let found = read_by-some (number_taken field size (shifted value b)) (λ (n : Body). read_body n bytes) (Rest next) is in
    number_by field next size value b bytes (nat_le size 1) found.0 some refl found.1 found.2 (number-at field next bytes)

-- two bytes, and four
pub record Two (digits : List ℕ) : Type 0 where
  pub a : ℕ
  pub b : ℕ
  pub is : digits ≡ a ∷ b ∷ []

pub two : (digits : List ℕ) → length digits ≡ 2 → Two digits
two [] size = absurd (omega arith)
two (a ∷ []) size = absurd (omega arith)
two (a ∷ b ∷ []) size = record { a = a; b = b; is = refl }
two (a ∷ b ∷ c ∷ more) size = absurd (omega arith)

pub record Four (digits : List ℕ) : Type 0 where
  pub a : ℕ
  pub b : ℕ
  pub c : ℕ
  pub d : ℕ
  pub is : digits ≡ a ∷ b ∷ c ∷ d ∷ []

pub four_digits : (digits : List ℕ) → length digits ≡ 4 → Four digits
four_digits [] size = absurd (omega arith)
four_digits (a ∷ []) size = absurd (omega arith)
four_digits (a ∷ b ∷ []) size = absurd (omega arith)
four_digits (a ∷ b ∷ c ∷ []) size = absurd (omega arith)
four_digits (a ∷ b ∷ c ∷ d ∷ []) size = record { a = a; b = b; c = c; d = d; is = refl }
four_digits (a ∷ b ∷ c ∷ d ∷ e ∷ more) size = absurd (omega arith)

pub rest-same : (last next : Next) (bytes : List ℕ) → read_body (Rest last) bytes ≡ Some (Rest next) → next ≡ last
rest-same last next bytes is = cc (rest-read last bytes)

-- the first byte of a payload
pub data Opened (due : Due) (n b : ℕ) (body : Body) : Type 0 where
  ByErr : b ≡ 255 → takes_err due ≡ true → 9 ≤ n → body ≡ number_of Code 2 → Opened due n b body
  ByEof : (eof : Eof) → b ≡ 254 → 5 ≤ n → n < 9 → eof_of due ≡ Some eof → body ≡ number_of (EofNumber eof) 4 → Opened due n b body
  ByOther : b ≢ 255 → (b ≡ 254 → 5 ≤ n → n < 9 → ⊥) → opened_by due n b ≡ Some body → Opened due n b body

both : (p q : Bool) (x : Option Body) (body : Body) → cond (p && q) x None ≡ Some body → (p ≡ true) × (q ≡ true) × (x ≡ Some body)
both true true x body is = (refl, refl, is)
both true false x body is = absurd (cc)
both false q x body is = absurd (cc)

eof_some : (found : Option Eof) (body : Body) → eof_body found ≡ Some body → (eof : Eof) × (found ≡ Some eof) × (body ≡ number_of (EofNumber eof) 4)
eof_some None body is = absurd (cc)
eof_some (Some eof) body is = (eof, refl, cc)

opened_cases : (due : Due) (n b : ℕ) (body : Body) (err eof : Bool) → nat_eq b 255 ≡ err → (nat_eq b 254 && is_short n) ≡ eof
    → cond err (cond (takes_err due && nat_le 9 n) (Some (number_of Code 2)) None) (cond eof (eof_body (eof_of due)) (opened_by due n b)) ≡ Some body → Opened due n b body
opened_cases due n b body true eof is_err is_eof is =
    let parts = both (takes_err due) (nat_le 9 n) (Some (number_of Code 2)) body is in
    ByErr (nat_eq-true b 255 is_err) parts.0 (leb-true 9 n parts.1) (cc (parts.2))
opened_cases due n b body false true is_err is_eof is =
    let found = eof_some (eof_of due) body is in
    let facts : (b ≡ 254) × (5 ≤ n) × (n < 9) = (grind (arith, nat_tests), grind (arith, nat_tests), grind (arith, nat_tests)) in
    ByEof found.0 facts.0 facts.1 facts.2 found.1 found.2
opened_cases due n b body false false is_err is_eof is = ByOther (nat_eq-false b 255 is_err) (λ first least most. grind (arith, nat_tests)) is

pub opened-by : (due : Due) (n b : ℕ) (body : Body) → opened due n b ≡ Some body → Opened due n b body
opened-by due n b body is = opened_cases due n b body (nat_eq b 255) (nat_eq b 254 && is_short n) refl refl is

-- a length-encoded number
pub record RowsAt (bytes : List ℕ) (next : Next) : Type 0 where
  pub rows : List ℕ
  pub affected : ℕ
  pub others : List ℕ
  pub is : bytes ≡ rows ++ others
  pub number : IsNumber rows affected
  pub reads : read_body (CellBody InsertFirst) others ≡ Some (Rest next)

room_tests : (room none : Bool) (one other : Body) (body : Body) → cond room None (cond none (Some one) (Some other)) ≡ Some body → (room ≡ false) × (((none ≡ true) × (body ≡ one)) ⊎ ((none ≡ false) × (body ≡ other)))
room_tests true none one other body is = absurd (cc)
room_tests false true one other body is = (refl, inl (refl, cc))
room_tests false false one other body is = (refl, inr (refl, cc))

rows_by_size : (b : ℕ) (others : List ℕ) (after : Body) (next : Next) (found : Option ℕ) → size_behind b ≡ found → rows_by found (length (b ∷ others)) ≡ Some after → read_body after others ≡ Some (Rest next) → RowsAt (b ∷ others) next
rows_by_size b others after next None size goes reads = absurd (cc)
rows_by_size b others after next (Some n) size goes reads =
    let tests = room_tests (nat_lt (length (b ∷ others)) (n + 6)) (nat_eq n 0) (CellBody InsertFirst) (number_of RowsNumber n) after goes in
    elim tests.1 [
      | inl one ↦
          let none : n ≡ 0 = nat_eq-true n 0 one.0 in
          record { rows = b ∷ []; affected = cond (nat_lt b 251) b 0; others = others; is = refl; number = record { first = b; others = []; is = refl; sized = size ∙ ap Some none; value = refl }; reads = rw one.1 at reads }
      | inr more ↦
          let number = number-at RowsNumber next others n 0 (omega (arith, nat_eq-false n 0 more.0)) (rw more.1 at reads) in
          let same : number.after ≡ CellBody InsertFirst = cc (number.goes) in
          record {
            rows = b ∷ number.digits;
            affected = cond (nat_lt b 251) b (little_endian number.digits);
            others = number.others;
            is = ap (λ bs. b ∷ bs) number.is;
            number = record { first = b; others = number.digits; is = refl; sized = size ∙ ap Some (sym number.count); value = refl };
            reads = rw same at number.reads;
          }
    ]

pub rows-at : (bytes : List ℕ) (next : Next) → read_body (CellBody RowsFirst) bytes ≡ Some (Rest next) → RowsAt bytes next
rows-at bytes next is =
    let at = cell-at RowsFirst bytes next is in
    rw at.is (rows_by_size at.b at.others at.after next (size_behind at.b) refl at.goes at.reads)

pub record InsertAt (bytes : List ℕ) (next : Next) : Type 0 where
  pub insert : List ℕ
  pub insert_id : ℕ
  pub others : List ℕ
  pub is : bytes ≡ insert ++ others
  pub number : IsNumber insert insert_id
  pub reads : read_body (number_of (Flags insert_id) 4) others ≡ Some (Rest next)

large : (b n : ℕ) → IsSized b n → 0 < n → (251 ≤ b) × ((n ≡ 2) ⊎ ((n ≡ 3) ⊎ (n ≡ 8)))
large b n is some = elim is.which [ inl a ↦ absurd (omega (arith, a.1)) | inr c ↦ c ]

small : (b n : ℕ) → IsSized b n → n ≡ 0 → b < 251
small b n is none = elim is.which [ inl a ↦ a.0 | inr c ↦ absurd (elim c.1 [ inl two ↦ omega (arith, two) | inr d ↦ elim d [ inl three ↦ omega (arith, three) | inr eight ↦ omega (arith, eight) ] ]) ]

insert_by_size : (b : ℕ) (others : List ℕ) (after : Body) (next : Next) (found : Option ℕ) → size_behind b ≡ found → insert_by found (length (b ∷ others)) b ≡ Some after → read_body after others ≡ Some (Rest next) → InsertAt (b ∷ others) next
insert_by_size b others after next None size goes reads = absurd (cc)
insert_by_size b others after next (Some n) size goes reads =
    let tests = room_tests (nat_lt (length (b ∷ others)) (n + 5)) (nat_eq n 0) (number_of (Flags b) 4) (number_of (Insert n) n) after goes in
    elim tests.1 [
      | inl one ↦
          let none : n ≡ 0 = nat_eq-true n 0 one.0 in
          let itself : b ≡ cond (nat_lt b 251) b 0 = rw (lt-ltb b 251 (small b n (sized b n size) none)) refl in
          record { insert = b ∷ []; insert_id = b; others = others; is = refl; number = record { first = b; others = []; is = refl; sized = size ∙ ap Some none; value = itself }; reads = rw one.1 at reads }
      | inr more ↦
          let some : 0 < n = omega (arith, nat_eq-false n 0 more.0) in
          let number = number-at (Insert n) next others n 0 some (rw more.1 at reads) in
          let which = large b n (sized b n size) some in
          let scaled : insert_scaled n (shifted_all 0 number.digits) ≡ little_endian number.digits = insert-read n number.digits number.count which.1 in
          let same : number.after ≡ number_of (Flags (little_endian number.digits)) 4 = cc (number.goes, scaled) in
          let value : little_endian number.digits ≡ cond (nat_lt b 251) b (little_endian number.digits) = rw (le-ltb b 251 which.0) refl in
          record {
            insert = b ∷ number.digits;
            insert_id = little_endian number.digits;
            others = number.others;
            is = ap (λ bs. b ∷ bs) number.is;
            number = record { first = b; others = number.digits; is = refl; sized = size ∙ ap Some (sym number.count); value = value };
            reads = rw same at number.reads;
          }
    ]

pub insert-at : (bytes : List ℕ) (next : Next) → read_body (CellBody InsertFirst) bytes ≡ Some (Rest next) → InsertAt bytes next
insert-at bytes next is =
    let at = cell-at InsertFirst bytes next is in
    rw at.is (insert_by_size at.b at.others at.after next (size_behind at.b) refl at.goes at.reads)
