-- Walks along a list.
use Rattle.std.proofs.Common.{◌≡◌, ℕ, zero, suc, ◌+◌, ◌<◌, ◌≤◌, true, false, List, [], ◌∷◌, ◌⊎◌, length, drop, ap, sym, refl, ◌∙◌, inl, inr, arith}
use Rattle.std.specs.Prelude.{nat_eq, nat_le, nat_lt, slice_get, slice_index, Option, Some}
use Rattle.std.proofs.lemmas.Bool.{lt-ltb, le-ltb, le-leb, lt-leb}
use Rattle.std.proofs.lemmas.List.{drop_all}
use Rattle.slot_lists.specs.Orders.{Each, before, last, members, stop_of}
use Rattle.slot_lists.specs.Chains.{Chains, IsChain, Spells, slot_at}
use Rattle.slot_lists.proofs.Each.{each_drop, each_filter, length-filter}

-- the node that comes first of slots and the end behind them
abbrev pub head_of : (end : ℕ) → List ℕ → ℕ
head_of end [] = end
head_of end (x ∷ xs) = x

pub next_first : (next previous : List ℕ) (from : ℕ) (xs : List ℕ) (end : ℕ) → IsChain next previous from xs end
    → slice_index next from ≡ head_of end xs
next_first next previous from [] end chain = chain.0
next_first next previous from (x ∷ xs) end chain = chain.0

-- behind a slot comes the next of the chain
pub next_in : (next previous : List ℕ) (from : ℕ) (xs : List ℕ) (end i at : ℕ) → IsChain next previous from xs end
    → at ≡ head_of end (drop i xs) → i < length xs → slice_index next at ≡ head_of end (drop (suc i) xs)
next_in next previous from [] end i at chain is h = absurd (omega arith)
next_in next previous from (x ∷ xs) end zero at chain is h = rw is (next_first next previous x xs end chain.2)
next_in next previous from (x ∷ xs) end (suc i) at chain is h = next_in next previous x xs end i at chain.2 is (omega arith)

pub slot_of_head : (slots end : ℕ) (xs : List ℕ) → Each (λ x. x < slots) xs → slots ≤ end → slot_at slots (head_of end xs) ≡ slice_get xs 0
slot_of_head slots end [] within h = rw (le-ltb end slots h) refl
slot_of_head slots end (x ∷ xs) within h = let small : nat_lt x slots ≡ true = lt-ltb x slots within.0 in rw small refl

pub first_is : (c : Chains) (moments order : List ℕ) (list : ℕ) → list < c.lists → Spells c moments order
    → slot_at c.slots (slice_index c.next (c.slots + list)) ≡ slice_get (members c.list_of list order) 0
first_is c moments order list in' spells =
    ap (slot_at c.slots) (next_first c.next c.previous (c.slots + list) (members c.list_of list order) (c.slots + list) (spells.rings list in'))
    ∙ slot_of_head c.slots (c.slots + list) (members c.list_of list order)
    (each_filter (λ x. x < c.slots) (λ x. nat_eq (slice_index c.list_of x) list) order spells.within) (omega arith)

-- A slot's neighbours.

older_in : (next previous : List ℕ) (slots from : ℕ) (xs : List ℕ) (end place slot : ℕ) → IsChain next previous from xs end
    → Each (λ x. x < slots) xs → slots ≤ end → slice_get xs place ≡ Some slot
    → slot_at slots (slice_index next slot) ≡ slice_get xs (suc place)
older_in next previous slots from [] end place slot chain within h is = absurd cc
older_in next previous slots from (x ∷ xs) end zero slot chain within h is =
    let one : slot ≡ x = cc in
    rw (one, next_first next previous x xs end chain.2) (slot_of_head slots end xs within.1 h)
older_in next previous slots from (x ∷ xs) end (suc place) slot chain within h is =
    older_in next previous slots x xs end place slot chain.2 within.1 h is

before_from : (slots from : ℕ) → List ℕ → (place : ℕ) → Option ℕ
before_from slots from xs zero = slot_at slots from
before_from slots from xs (suc place) = slice_get xs place

newer_in : (next previous : List ℕ) (slots from : ℕ) (xs : List ℕ) (end place slot : ℕ) → IsChain next previous from xs end
    → Each (λ x. x < slots) xs → slice_get xs place ≡ Some slot
    → slot_at slots (slice_index previous slot) ≡ before_from slots from xs place
unfolding before_from
newer_in next previous slots from [] end place slot chain within is = absurd cc
newer_in next previous slots from (x ∷ xs) end zero slot chain within is =
    let one : slot ≡ x = cc in
    rw (one, chain.1) refl
newer_in next previous slots from (x ∷ xs) end (suc zero) slot chain within is =
    newer_in next previous slots x xs end zero slot chain.2 within.1 is
    ∙ (let small : nat_lt x slots ≡ true = lt-ltb x slots within.0 in rw small refl)
newer_in next previous slots from (x ∷ xs) end (suc (suc place)) slot chain within is =
    newer_in next previous slots x xs end (suc place) slot chain.2 within.1 is

last_node : (from : ℕ) → List ℕ → ℕ
last_node from [] = from
last_node from (x ∷ xs) = last_node x xs

before_end : (next previous : List ℕ) (from : ℕ) (xs : List ℕ) (end : ℕ) → IsChain next previous from xs end
    → slice_index previous end ≡ last_node from xs
unfolding last_node
before_end next previous from [] end chain = chain.1
before_end next previous from (x ∷ xs) end chain = before_end next previous x xs end chain.2

last_is : (slots x : ℕ) (xs : List ℕ) → x < slots → Each (λ y. y < slots) xs → slot_at slots (last_node x xs) ≡ last (x ∷ xs)
unfolding last_node
last_is slots x [] small within = let fits : nat_lt x slots ≡ true = lt-ltb x slots small in rw fits refl
last_is slots x (y ∷ ys) small within = last_is slots y ys within.0 within.1

last_in : (slots from : ℕ) (xs : List ℕ) → slots ≤ from → Each (λ y. y < slots) xs → slot_at slots (last_node from xs) ≡ last xs
unfolding last_node
last_in slots from [] h within = rw (le-ltb from slots h) refl
last_in slots from (x ∷ xs) h within = last_is slots x xs within.0 within.1

members_within : (c : Chains) (moments order : List ℕ) (list : ℕ) → Spells c moments order
    → Each (λ x. x < c.slots) (members c.list_of list order)
members_within c moments order list spells =
    each_filter (λ x. x < c.slots) (λ x. nat_eq (slice_index c.list_of x) list) order spells.within

pub last_of : (c : Chains) (moments order : List ℕ) (list : ℕ) → list < c.lists → Spells c moments order
    → slot_at c.slots (slice_index c.previous (c.slots + list)) ≡ last (members c.list_of list order)
last_of c moments order list in' spells =
    ap (slot_at c.slots) (before_end c.next c.previous (c.slots + list) (members c.list_of list order) (c.slots + list) (spells.rings list in'))
    ∙ last_in c.slots (c.slots + list) (members c.list_of list order) (omega arith) (members_within c moments order list spells)

pub older_of : (c : Chains) (moments order : List ℕ) (list place slot : ℕ) → Spells c moments order → list < c.lists
    → slice_get (members c.list_of list order) place ≡ Some slot
    → slot_at c.slots (slice_index c.next slot) ≡ slice_get (members c.list_of list order) (place + 1)
older_of c moments order list place slot spells in' is =
    let one : place + 1 ≡ suc place = omega arith in
    rw one (older_in c.next c.previous c.slots (c.slots + list) (members c.list_of list order) (c.slots + list) place slot
    (spells.rings list in') (members_within c moments order list spells) (omega arith) is)

before_so : (slots from : ℕ) (xs : List ℕ) (place : ℕ) → slots ≤ from → before_from slots from xs place ≡ before xs place
unfolding before_from
before_so slots from xs zero h = rw (le-ltb from slots h) refl
before_so slots from xs (suc place) h = refl

pub newer_of : (c : Chains) (moments order : List ℕ) (list place slot : ℕ) → Spells c moments order → list < c.lists
    → slice_get (members c.list_of list order) place ≡ Some slot
    → slot_at c.slots (slice_index c.previous slot) ≡ before (members c.list_of list order) place
newer_of c moments order list place slot spells in' is =
    newer_in c.next c.previous c.slots (c.slots + list) (members c.list_of list order) (c.slots + list) place slot
    (spells.rings list in') (members_within c moments order list spells) is
    ∙ before_so c.slots (c.slots + list) (members c.list_of list order) place (omega arith)

-- The search of a place.

stop_here : (moments : List ℕ) (moment slots end at : ℕ) (ys : List ℕ) → at ≡ head_of end ys → Each (λ x. x < slots) ys → slots ≤ end
    → (slots ≤ at) ⊎ (slice_index moments at ≤ moment) → at ≡ stop_of moments moment end ys
stop_here moments moment slots end at [] is within h why = is
stop_here moments moment slots end at (x ∷ ys) is within h why = elim why [
  | inl past ↦ absurd (omega (arith, is, within.0, past))
  | inr old ↦ let older : nat_le (slice_index moments x) moment ≡ true = le-leb _ _ (rw is at old) in rw older is
]

stop_more : (moments : List ℕ) (moment slots end at : ℕ) (xs : List ℕ) (i : ℕ) → at ≡ head_of end (drop i xs) → at < slots → slots ≤ end
    → moment < slice_index moments at
    → (stop_of moments moment end (drop i xs) ≡ stop_of moments moment end (drop (suc i) xs)) × (i < length xs)
stop_more moments moment slots end at [] zero is small h new = absurd (omega (arith, is))
stop_more moments moment slots end at [] (suc i) is small h new = absurd (omega (arith, is))
stop_more moments moment slots end at (x ∷ xs) zero is small h new =
    let newer : nat_le (slice_index moments x) moment ≡ false = lt-leb _ _ (rw is at new) in
    (rw newer refl, omega arith)
stop_more moments moment slots end at (x ∷ xs) (suc i) is small h new =
    let more = stop_more moments moment slots end at xs i is small h new in
    (more.0, omega (arith, more.1))

-- a walk along a list has come this far
pub record Walked (c : Chains) (moments order : List ℕ) (list moment i at : ℕ) : Type 0 where
  pub here : at ≡ head_of (c.slots + list) (drop i (members c.list_of list order))
  pub so_far : stop_of moments moment (c.slots + list) (members c.list_of list order)
      ≡ stop_of moments moment (c.slots + list) (drop i (members c.list_of list order))

pub walked_none : (c : Chains) (moments order : List ℕ) (list moment at : ℕ) → list < c.lists → Spells c moments order
    → at ≡ slice_index c.next (c.slots + list) → Walked c moments order list moment 0 at
walked_none c moments order list moment at in' spells is = record {
  here = is ∙ next_first c.next c.previous (c.slots + list) (members c.list_of list order) (c.slots + list) (spells.rings list in');
  so_far = refl;
}

pub walked_more : (c : Chains) (moments order : List ℕ) (list moment i at next : ℕ) → list < c.lists → Spells c moments order
    → Walked c moments order list moment i at → at < c.slots → moment < slice_index moments at → next ≡ slice_index c.next at
    → Walked c moments order list moment (i + 1) next
walked_more c moments order list moment i at next in' spells walked small new is =
    let one : i + 1 ≡ suc i = omega arith in
    let more = stop_more moments moment c.slots (c.slots + list) at (members c.list_of list order) i walked.here small (omega arith) new in
    record {
      here = rw one (is ∙ next_in c.next c.previous (c.slots + list) (members c.list_of list order) (c.slots + list) i at
          (spells.rings list in') walked.here more.1);
      so_far = rw one (walked.so_far ∙ more.0);
    }

pub walked_here : (c : Chains) (moments order : List ℕ) (list moment i at : ℕ) → Spells c moments order
    → Walked c moments order list moment i at → (c.slots ≤ at) ⊎ (slice_index moments at ≤ moment)
    → at ≡ stop_of moments moment (c.slots + list) (members c.list_of list order)
walked_here c moments order list moment i at spells walked why =
    stop_here moments moment c.slots (c.slots + list) at (drop i (members c.list_of list order)) walked.here
    (each_drop (λ x. x < c.slots) i (members c.list_of list order) (members_within c moments order list spells)) (omega arith) why
    ∙ sym walked.so_far

pub walked_all : (c : Chains) (moments order : List ℕ) (list moment i at : ℕ) → Spells c moments order
    → Walked c moments order list moment i at → c.slots ≤ i
    → at ≡ stop_of moments moment (c.slots + list) (members c.list_of list order)
walked_all c moments order list moment i at spells walked past =
    let none : drop i (members c.list_of list order) ≡ [] = drop_all i (members c.list_of list order)
    (omega (arith, past, spells.few, length-filter (λ x. nat_eq (slice_index c.list_of x) list) order)) in
    let end : at ≡ c.slots + list = rw none at walked.here in
    let stop : stop_of moments moment (c.slots + list) (members c.list_of list order) ≡ c.slots + list = rw none at walked.so_far in
    end ∙ sym stop
