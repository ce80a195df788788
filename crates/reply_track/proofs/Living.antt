-- The states that a tracker comes to, and what it comes to from them.
use Rattle.std.proofs.Common.{◌≡◌, ◌≤◌, ◌<◌, ℕ, zero, suc, ◌+◌, ◌-◌, Bool, true, false, cond, nat_le, nat_lt, nat_eq, Option, Some, None, length, refl, arith, lit<}
use Rattle.std.proofs.lemmas.Bool.{leb-false, ltb-false}
use Rattle.packet_frame.specs.PacketLaws.{nat_eq-false}
use Rattle.reply_track.specs.declared.head.Cell.{Cell}
use Rattle.reply_track.specs.declared.head.Cell.TheVariants.{RowsFirst, InsertFirst, ErrMark, CountZero, Filler}
use Rattle.reply_track.specs.declared.head.Number.{Number}
use Rattle.reply_track.specs.declared.head.Number.TheVariants.{Rows as RowsNumber, Insert, Flags, Code, Eof as EofNumber, Count, Statement, Shape, Warnings}
use Rattle.reply_track.specs.declared.body.Body.{Body}
use Rattle.reply_track.specs.declared.body.Body.TheVariants.{Due as DueBody, Cell as CellBody, Number as NumberBody, Rest}
use Rattle.reply_track.specs.declared.place.Place.{Place}
use Rattle.reply_track.specs.declared.place.Place.TheVariants.{First, Second, Third, Id as IdPlace, Body as BodyPlace}
use Rattle.reply_track.specs.declared.place.State.{State}
use Rattle.reply_track.specs.declared.place.Outcome.{Outcome}
use Rattle.reply_track.specs.declared.place.Outcome.TheVariants.{On, Over, Wrong}
use Rattle.reply_track.specs.Payloads.{size_behind}
use Rattle.reply_track.specs.Steps.{takes_length, is_short, body_takes_low, body_takes_length, number_of, count_taken, rows_by, insert_by, cell_taken, number_read, number_taken, two_bytes}
use Rattle.reply_track.proofs.Classes.{is_not}

-- the bytes that a field needs, with those behind it
abbrev pub cell_needs : Cell → ℕ
cell_needs RowsFirst = 6
cell_needs InsertFirst = 5
cell_needs (ErrMark code) = 1
cell_needs (CountZero count more) = more + 1
cell_needs (Filler number columns params) = 3

abbrev pub number_needs : Number → ℕ
number_needs RowsNumber = 5
number_needs (Insert size) = 4
number_needs (Flags insert_id) = 0
number_needs Code = 1
number_needs (EofNumber eof) = 0
number_needs (Count more) = more
number_needs Statement = 7
number_needs (Shape number) = 3
number_needs (Warnings number columns params) = 0

pub record NumberFits (left : ℕ) (field : Number) (size : ℕ) : Type 0 where
  pub some : 0 < size
  pub room : size + number_needs field ≤ left

-- a payload in work, behind its first byte, so many bytes of whose packet are left
abbrev pub Fits : (left : ℕ) → Body → Type 0
Fits left (Rest next) = Unit {0}
Fits left (DueBody due) = ⊥
Fits left (CellBody cell) = cell_needs cell ≤ left
Fits left (NumberBody field size value) = NumberFits left field size

-- the same, where no byte came yet
abbrev pub FitsDue : (left : ℕ) → Body → Type 0
FitsDue left (DueBody due) = takes_length due left ≡ true
FitsDue left (Rest next) = Unit {0}
FitsDue left (CellBody cell) = cell_needs cell ≤ left
FitsDue left (NumberBody field size value) = NumberFits left field size

abbrev pub IsAtHeader : Body → Type 0
IsAtHeader (DueBody due) = Unit {0}
IsAtHeader (Rest next) = Unit {0}
IsAtHeader (CellBody cell) = ⊥
IsAtHeader (NumberBody field size value) = ⊥

pub record LowAt (body : Body) (low : ℕ) : Type 0 where
  pub header : IsAtHeader body
  pub takes : body_takes_low body low ≡ true

pub record LengthAt (body : Body) (length : ℕ) : Type 0 where
  pub header : IsAtHeader body
  pub takes : body_takes_length body length ≡ true

pub record BodyAt (body : Body) (left : ℕ) : Type 0 where
  pub some : 0 < left
  pub fits : FitsDue left body

abbrev pub IsAt : Place → Body → Type 0
IsAt First body = IsAtHeader body
IsAt (Second low) body = LowAt body low
IsAt (Third low) body = LowAt body low
IsAt (IdPlace length) body = LengthAt body length
IsAt (BodyPlace left long) body = BodyAt body left

pub record IsAlive (state : State) : Type 0 where
  pub small : state.server < 256
  pub at : IsAt state.place state.body

abbrev pub IsAliveAt : Outcome → Type 0
IsAliveAt (On state) = IsAlive state
IsAliveAt (Over end) = Unit {0}
IsAliveAt Wrong = Unit {0}

-- a byte of a payload leaves room for what follows
abbrev pub FitsAt : (left : ℕ) → Option Body → Type 0
FitsAt left None = Unit {0}
FitsAt left (Some body) = Fits left body

pub count_fits : (count more left : ℕ) → more ≤ left → Fits left (count_taken count more)
count_fits count zero left room = tt
count_fits count (suc more) left room =
    let several : nat_eq (suc more) 0 ≡ false = is_not (suc more) 0 (λ e. omega arith) in
    let needs : suc more - 1 + 1 ≤ left = omega arith in
    rw several needs

rows_fit : (found : Option ℕ) (left : ℕ) → FitsAt (left - 1) (rows_by found left)
rows_fit None left = tt
rows_fit (Some size) left = of (nat_lt left (size + 6)) (nat_eq size 0) refl refl where
  of : (short none : Bool) → nat_lt left (size + 6) ≡ short → nat_eq size 0 ≡ none → FitsAt (left - 1) (cond short None (cond none (Some (CellBody InsertFirst)) (Some (number_of RowsNumber size))))
  of true none is_short is_none = tt
  of false true is_short is_none = let room : size + 6 ≤ left = ltb-false left (size + 6) is_short in omega arith
  of false false is_short is_none =
      let room : size + 6 ≤ left = ltb-false left (size + 6) is_short in
      record { some = omega (arith, nat_eq-false size 0 is_none); room = omega arith }

insert_fit : (found : Option ℕ) (left byte : ℕ) → FitsAt (left - 1) (insert_by found left byte)
insert_fit None left byte = tt
insert_fit (Some size) left byte = of (nat_lt left (size + 5)) (nat_eq size 0) refl refl where
  of : (short none : Bool) → nat_lt left (size + 5) ≡ short → nat_eq size 0 ≡ none → FitsAt (left - 1) (cond short None (cond none (Some (number_of (Flags byte) 4)) (Some (number_of (Insert size) size))))
  of true none is_short is_none = tt
  of false true is_short is_none = let room : size + 5 ≤ left = ltb-false left (size + 5) is_short in record { some = lit< tt; room = omega arith }
  of false false is_short is_none =
      let room : size + 5 ≤ left = ltb-false left (size + 5) is_short in
      record { some = omega (arith, nat_eq-false size 0 is_none); room = omega arith }

chosen_fits : (test : Bool) (body : Body) (left : ℕ) → Fits left body → FitsAt left (cond test (Some body) None)
chosen_fits true body left fits = fits
chosen_fits false body left fits = tt

pub cell_fits : (cell : Cell) (left byte : ℕ) → cell_needs cell ≤ left → FitsAt (left - 1) (cell_taken cell left byte)
cell_fits RowsFirst left byte room = rows_fit (size_behind byte) left
cell_fits InsertFirst left byte room = insert_fit (size_behind byte) left byte
cell_fits (ErrMark code) left byte room = chosen_fits (nat_eq byte 35) (Rest _) (left - 1) tt
cell_fits (CountZero count more) left byte room = chosen_fits (nat_eq byte 0) (count_taken count more) (left - 1) (count_fits count more (left - 1) (omega arith))
cell_fits (Filler number columns params) left byte room = chosen_fits (nat_eq byte 0) (number_of (Warnings number columns params) 2) (left - 1) (record { some = lit< tt; room = omega arith })

read_fits : (field : Number) (left value : ℕ) → number_needs field ≤ left → FitsAt left (number_read field value)
read_fits RowsNumber left value room = room
read_fits (Insert size) left value room = record { some = lit< tt; room = room }
read_fits (Flags insert_id) left value room = tt
read_fits Code left value room = room
read_fits (EofNumber eof) left value room = tt
read_fits (Count more) left value room = of (nat_eq (two_bytes value) 0) where
  of : (none : Bool) → FitsAt left (cond none None (Some (count_taken (two_bytes value) more)))
  of true = tt
  of false = count_fits (two_bytes value) more left room
read_fits Statement left value room = record { some = lit< tt; room = room }
read_fits (Shape number) left value room = room
read_fits (Warnings number columns params) left value room = tt

pub number_fits : (field : Number) (size left value : ℕ) → NumberFits left field size → FitsAt (left - 1) (number_taken field size value)
number_fits field size left value fits = of (nat_le size 1) refl where
  of : (one : Bool) → nat_le size 1 ≡ one → FitsAt (left - 1) (cond one (number_read field value) (Some (NumberBody field (size - 1) value)))
  of true one = read_fits field (left - 1) value (omega (arith, fits.room, fits.some))
  of false one = let more : 1 < size = leb-false size 1 one in record { some = omega arith; room = omega (arith, fits.room) }
