-- The order of the slots where there is one list.
use Rattle.std.proofs.Common.{◌≡◌, ℕ, zero, suc, ◌+◌, ◌<◌, ◌≤◌, true, List, [], ◌∷◌, length, ap, refl, arith}
use Rattle.std.specs.Prelude.{nat_eq, nat_lt, slice_index}
use Rattle.std.proofs.lemmas.Bool.{eq-eqb, le-ltb, lt-ltb}
use Rattle.slot_lists.specs.Orders.{Each, members}
use Rattle.slot_lists.specs.Chains.{Chains, IsChain, Spells, order_in, walk}

walk_along : (next previous : List ℕ) (slots from : ℕ) (xs : List ℕ) (end steps : ℕ) → IsChain next previous from xs end
    → Each (λ x. x < slots) xs → slots ≤ end → length xs ≤ steps → walk next slots steps (slice_index next from) ≡ xs
walk_along next previous slots from [] end zero chain within h few = refl
walk_along next previous slots from [] end (suc steps) chain within h few = rw (chain.0, le-ltb end slots h) refl
walk_along next previous slots from (x ∷ xs) end zero chain within h few = absurd (omega arith)
walk_along next previous slots from (x ∷ xs) end (suc steps) chain within h few =
    let small : nat_lt x slots ≡ true = lt-ltb x slots within.0 in
    rw (chain.0, small) (ap (λ (rest : List ℕ). x ∷ rest)
    (walk_along next previous slots x xs end steps chain.2 within.1 h (omega arith)))

pub members_all : (list_of : List ℕ) (list : ℕ) (order : List ℕ) → Each (λ slot. slice_index list_of slot ≡ list) order
    → members list_of list order ≡ order
members_all list_of list [] each = refl
members_all list_of list (x ∷ order) each =
    let here : nat_eq (slice_index list_of x) list ≡ true = eq-eqb _ _ each.0 in
    rw here (ap (λ (rest : List ℕ). x ∷ rest) (members_all list_of list order each.1))

-- where all slots stand in the first list, it has them all
pub order_is : (c : Chains) (moments order : List ℕ) → Spells c moments order → 0 < c.lists
    → Each (λ slot. slice_index c.list_of slot ≡ 0) order → order_in c ≡ order
order_is c moments order spells one each =
    let all : members c.list_of 0 order ≡ order = members_all c.list_of 0 order each in
    let at : c.slots + 0 ≡ c.slots = omega arith in
    walk_along c.next c.previous c.slots c.slots order c.slots c.slots (rw (all, at) at (spells.rings 0 one)) spells.within (omega arith)
    spells.few
