-- Slots in the order of their moments, the newest first.
use Rattle.std.specs.Prelude.{◌≢◌, ◌≤◌, ℕ, Bool, true, false, not, nat_eq, nat_le, if◌then◌else◌, List, [], ◌∷◌, slice_index, slice_get, zero, suc, Option, None, Some, filter}

-- a slot among others: before the first that is as old or older
abbrev pub placed : (moments : List ℕ) → (slot : ℕ) → List ℕ → List ℕ
placed moments slot [] = slot ∷ []
placed moments slot (first ∷ order) =
    if nat_le (slice_index moments first) (slice_index moments slot) then slot ∷ first ∷ order else first ∷ placed moments slot order

abbrev pub without : (slot : ℕ) → List ℕ → List ℕ
without slot order = filter (λ other. not (nat_eq other slot)) order

-- the slots of one list
abbrev pub members : (list_of : List ℕ) → (list : ℕ) → List ℕ → List ℕ
members list_of list order = filter (λ slot. nat_eq (slice_index list_of slot) list) order

abbrev pub Each : (ℕ → Type 0) → List ℕ → Type 0
Each P [] = Unit {0}
Each P (first ∷ order) = P first × Each P order

abbrev pub IsApart : (slot : ℕ) → List ℕ → Type 0
IsApart slot order = Each (λ other. other ≢ slot) order

abbrev pub IsDistinct : List ℕ → Type 0
IsDistinct [] = Unit {0}
IsDistinct (first ∷ order) = IsApart first order × IsDistinct order

abbrev pub has : (slot : ℕ) → List ℕ → Bool
has slot [] = false
has slot (first ∷ order) = if nat_eq first slot then true else has slot order

-- each is as old as those before it, or older
abbrev pub IsOrdered : (moments : List ℕ) → List ℕ → Type 0
IsOrdered moments [] = Unit {0}
IsOrdered moments (first ∷ order) =
    Each (λ later. slice_index moments later ≤ slice_index moments first) order × IsOrdered moments order

-- the first slot that is as old as a moment or older, the end if there is none
abbrev pub stop_of : (moments : List ℕ) → (moment end : ℕ) → List ℕ → ℕ
stop_of moments moment end [] = end
stop_of moments moment end (first ∷ order) =
    if nat_le (slice_index moments first) moment then first else stop_of moments moment end order

abbrev pub last : List ℕ → Option ℕ
last [] = None
last (first ∷ []) = Some first
last (first ∷ next ∷ order) = last (next ∷ order)

-- what stands before a place
abbrev pub before : List ℕ → (place : ℕ) → Option ℕ
before order zero = None
before order (suc place) = slice_get order place
