-- Which link is lent.
use Rattle.std.proofs.Common.{◌≡◌, ℕ, true, List, [], ◌∷◌, refl, inl, inr}
use Rattle.std.specs.Prelude.{nat_eq, slice_get, slice_index, IfSome, Option, Some, None}
use Rattle.std.proofs.lemmas.Bool.{cases_Bool, eqb-true, eq-eqb}
use Rattle.slot_lists.specs.Orders.{has, members}
use Rattle.conn_pool.specs.Shelves.{Shelves, best_for, if_of_key, of_key, of_place}

first_of : (list_of : List ℕ) (list : ℕ) (order : List ℕ) → IfSome (slice_get (members list_of list order) 0) (λ slot. slice_index list_of slot ≡ list)
first_of list_of list [] = tt
first_of list_of list (x ∷ order) = elim (cases_Bool (nat_eq (slice_index list_of x) list)) [
  | inl hit ↦ rw hit (eqb-true (slice_index list_of x) list hit)
  | inr miss ↦ rw miss (first_of list_of list order)
]

later : (x : ℕ) (order : List ℕ) (found : Option ℕ) → IfSome found (λ slot. has slot order ≡ true) → IfSome found (λ slot. has slot (x ∷ order) ≡ true)
later x order None h = tt
later x order (Some slot) h = elim (cases_Bool (nat_eq x slot)) [ inl hit ↦ rw hit refl | inr miss ↦ rw miss h ]

first_there : (list_of : List ℕ) (list : ℕ) (order : List ℕ) → IfSome (slice_get (members list_of list order) 0) (λ slot. has slot order ≡ true)
first_there list_of list [] = tt
first_there list_of list (x ∷ order) = elim (cases_Bool (nat_eq (slice_index list_of x) list)) [
  | inl hit ↦ rw hit (let same : nat_eq x x ≡ true = eq-eqb x x refl in rw same refl)
  | inr miss ↦ rw miss (later x order (slice_get (members list_of list order) 0) (first_there list_of list order))
]

key_of_either : (s : Shelves) (key : ℕ) (told other : Option ℕ) → IfSome other (λ link. slice_index s.key_of link ≡ key)
    → IfSome (if_of_key s key told other) (λ link. slice_index s.key_of link ≡ key)
key_of_either s key None other h = h
key_of_either s key (Some link) other h = elim (cases_Bool (nat_eq (slice_index s.key_of link) key)) [
  | inl hit ↦ rw hit (eqb-true (slice_index s.key_of link) key hit)
  | inr miss ↦ rw miss h
]

either_there : (s : Shelves) (key : ℕ) (told other : Option ℕ) → IfSome told (λ link. has link s.order ≡ true) → IfSome other (λ link. has link s.order ≡ true)
    → IfSome (if_of_key s key told other) (λ link. has link s.order ≡ true)
either_there s key None other t h = h
either_there s key (Some link) other t h = elim (cases_Bool (nat_eq (slice_index s.key_of link) key)) [
  | inl hit ↦ rw hit t
  | inr miss ↦ rw miss h
]

pub best_key : (s : Shelves) (key place : ℕ) → IfSome (best_for s key place) (λ link. slice_index s.key_of link ≡ key)
best_key s key place =
    key_of_either s key (slice_get (of_place s place) 0) (slice_get (of_key s key) 0) (first_of s.key_of key s.order)

pub best_there : (s : Shelves) (key place : ℕ) → IfSome (best_for s key place) (λ link. has link s.order ≡ true)
best_there s key place =
    either_there s key (slice_get (of_place s place) 0) (slice_get (of_key s key) 0) (first_there s.place_of place s.order) (first_there s.key_of key s.order)
