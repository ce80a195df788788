-- The first line that names a place.
use Rattle.std.proofs.Common.{◌≡◌, ℕ, suc, ◌<◌, ◌≤◌, ◌+◌, ◌==◌, Bool, true, false, List, [], ◌∷◌, ◌++◌, length, if◌then◌else◌, Option, Some, None, refl, sym, ◌∙◌, ap, arith, inl, inr}
use Rattle.std.specs.Prelude.{fold}
use Rattle.std.specs.Option.{option_or}
use Rattle.std.proofs.lemmas.Bool.{eqb-true}
use Rattle.mx_wire.specs.Growth.{bool_cases}
use Rattle.recording.specs.declared.entry.RecordLink.{RecordLink}
use Rattle.recording.specs.declared.entry.RecordEntry.{RecordEntry}
use Rattle.recording.specs.declared.entry.RecordEntry.TheVariants as line
use Rattle.mem_wire.specs.declared.ending.Ending.{Ending}
use Rattle.mem_wire.specs.declared.ending.Ending.TheVariants as ending
use Rattle.mem_wire.specs.declared.room.Room.{Room}
use Rattle.mem_wire.specs.Lines.{same_name, name_at, bytes_at, bytes_for, ending_step}
use Rattle.mem_wire.specs.Tracks.{place, room_given}
use Rattle.mem_wire.specs.Naming.{names, first_from}
use Rattle.mem_wire.proofs.LineLaws.{same_place}

-- the number of such a line is one of theirs
pub record IsNumber (from size i : ℕ) : Type 0 where
  pub least : from ≤ i
  pub below : i < from + size

pub first-number : (at from i : ℕ) (lines : List RecordEntry) → first_from at from lines ≡ Some i → IsNumber from (length lines) i
first-number at from i [] is = cc
first-number at from i (l ∷ lines) is = elim (bool_cases (names at l)) [
  | inl here ↦
      let now : Some from ≡ Some i = sym (ap (λ b. if b then Some from else first_from at (from + 1) lines) here) ∙ is in
      let same : from ≡ i = cc in
      record { least = omega arith; below = omega arith }
  | inr other ↦
      let later = first-number at (from + 1) i lines (sym (ap (λ b. if b then Some from else first_from at (from + 1) lines) other) ∙ is) in
      let least : from + 1 ≤ i = later.least in
      let below : i < (from + 1) + length lines = later.below in
      record { least = omega arith; below = omega arith }
]

-- with one more line
pub first-append : (at from : ℕ) (lines : List RecordEntry) (l : RecordEntry) → first_from at from (lines ++ l ∷ []) ≡ option_or (first_from at from lines) (if names at l then Some (from + length lines) else None)
first-append at from [] l = ap (λ (n : ℕ). if names at l then Some n else None) (let e : from ≡ from + 0 = omega arith in e)
first-append at from (x ∷ lines) l = of (names at x) (first-append at (from + 1) lines l) where
  of : (b : Bool) → first_from at (from + 1) (lines ++ l ∷ []) ≡ option_or (first_from at (from + 1) lines) (if names at l then Some ((from + 1) + length lines) else None) → (if b then Some from else first_from at (from + 1) (lines ++ l ∷ [])) ≡ option_or (if b then Some from else first_from at (from + 1) lines) (if names at l then Some (from + suc (length lines)) else None)
  of true later = refl
  of false later = later ∙ ap (λ (n : ℕ). option_or (first_from at (from + 1) lines) (if names at l then Some n else None)) (let e : (from + 1) + length lines ≡ from + suc (length lines) = omega arith in e)

-- a line names one place
one-name : (a b : ℕ) (o : Option RecordLink) → (elim o [ Some name ↦ a == place name | None ↦ false ]) ≡ true → (elim o [ Some name ↦ b == place name | None ↦ false ]) ≡ true → a ≡ b
one-name a b None p q = cc
one-name a b (Some name) p q = eqb-true a (place name) p ∙ sym (eqb-true b (place name) q)

pub first-one : (a b from i : ℕ) (lines : List RecordEntry) → first_from a from lines ≡ Some i → first_from b from lines ≡ Some i → a ≡ b
first-one a b from i [] p q = cc
first-one a b from i (l ∷ lines) p q = of (names a l) (names b l) (λ p2 q2. first-one a b (from + 1) i lines p2 q2) refl refl p q where
  of : (x y : Bool) → (first_from a (from + 1) lines ≡ Some i → first_from b (from + 1) lines ≡ Some i → a ≡ b) → names a l ≡ x → names b l ≡ y → (if x then Some from else first_from a (from + 1) lines) ≡ Some i → (if y then Some from else first_from b (from + 1) lines) ≡ Some i → a ≡ b
  of true true later here too p2 q2 = one-name a b (name_at l) here too
  of true false later here other p2 q2 =
      let same : from ≡ i = cc in
      let low : from + 1 ≤ i = (first-number b (from + 1) i lines q2).least in
      absurd (omega arith)
  of false true later other here p2 q2 =
      let same : from ≡ i = cc in
      let low : from + 1 ≤ i = (first-number a (from + 1) i lines p2).least in
      absurd (omega arith)
  of false false later other too p2 q2 = later p2 q2

pub record NoneNames (at from : ℕ) (l : RecordEntry) (lines : List RecordEntry) : Type 0 where
  pub here : names at l ≡ false
  pub later : first_from at (from + 1) lines ≡ None

pub none-names : (at from : ℕ) (l : RecordEntry) (lines : List RecordEntry) → first_from at from (l ∷ lines) ≡ None → NoneNames at from l lines
none-names at from l lines none = of (names at l) refl none where
  of : (b : Bool) → names at l ≡ b → (if b then Some from else first_from at (from + 1) lines) ≡ None → NoneNames at from l lines
  of true here is = cc
  of false here is = record { here = here; later = is }

-- what lines leave of a track that they don't name
pub record GivesNothing (wake : ℕ) (name : RecordLink) (lines : List RecordEntry) : Type 0 where
  pub bytes : bytes_for name lines ≡ []
  pub ending : (was : Option Ending) → fold (ending_step name) was lines ≡ was
  pub room : (was : Option Room) → fold (room_given wake name) was lines ≡ was

abbrev LineGivesNothing : ℕ → RecordLink → RecordEntry → Type 0
LineGivesNothing wake name l = (bytes_at name l ≡ []) × ((was : Option Ending) → ending_step name was l ≡ was) × ((was : Option Room) → room_given wake name was l ≡ was)

other-name : (name link : RecordLink) → (place name == place link) ≡ false → same_name name link ≡ false
other-name name link apart = sym (same_place name link) ∙ apart

line-gives : (wake : ℕ) (name : RecordLink) (l : RecordEntry) → names (place name) l ≡ false → LineGivesNothing wake name l
line-gives wake name (line.Bytes link bytes) apart = (ap (λ b. if b then bytes else []) (other-name name link apart), λ was. refl, λ was. refl)
line-gives wake name (line.End link) apart = (refl, λ was. ap (λ b. if b then Some ending.End else was) (other-name name link apart), λ was. refl)
line-gives wake name (line.Fail link) apart = (refl, λ was. ap (λ b. if b then Some ending.Fail else was) (other-name name link apart), λ was. refl)
line-gives wake name (line.Take link n) apart = (refl, λ was. refl, λ was. ap (λ b. if b then Some (record { wake = wake; left = n }) else was) (other-name name link apart))
line-gives wake name _ apart = (refl, λ was. refl, λ was. refl)

pub gives-nothing : (wake : ℕ) (name : RecordLink) (from : ℕ) (lines : List RecordEntry) → first_from (place name) from lines ≡ None → GivesNothing wake name lines
gives-nothing wake name from [] none = record { bytes = refl; ending = λ was. refl; room = λ was. refl }
gives-nothing wake name from (l ∷ lines) none =
    let parts = none-names (place name) from l lines none in
    let one = line-gives wake name l parts.here in
    let rest = gives-nothing wake name (from + 1) lines parts.later in
    record {
      bytes = ap (λ bs. bs ++ bytes_for name lines) one.0 ∙ rest.bytes;
      ending = λ was. ap (λ o. fold (ending_step name) o lines) (one.1 was) ∙ rest.ending was;
      room = λ was. ap (λ o. fold (room_given wake name) o lines) (one.2 was) ∙ rest.room was;
    }
