-- How many slots of a kind there are, as slots come and go.
use Rattle.std.proofs.Common.{◌≡◌, ◌≢◌, ℕ, ◌+◌, ◌≤◌, Bool, true, false, List, [], ◌∷◌, length, set, get_or-set_other, sym, refl, ap, ◌∙◌, arith}
use Rattle.std.specs.Prelude.{filter, nat_eq, not, slice_index}
use Rattle.std.proofs.lemmas.Bool.{eqb-true, eq-eqb, ne_eqb}
use Rattle.slot_lists.specs.Orders.{Each, IsApart, IsDistinct, IsOrdered, has, members, placed, without}
use Rattle.slot_lists.proofs.Each.{each_weaker, each_passes, distinct_filter, length-placed, without_none}
use Rattle.slot_lists.proofs.Members.{filter-placed, filter-placed_out, filter-filter, has-filter, members-set}
use Rattle.slots_by_age.proofs.Has.{length-without}

-- moments of slots that aren't there don't count
pub ordered_since : (moments : List ℕ) (slot moment : ℕ) (xs : List ℕ) → IsApart slot xs → IsOrdered moments xs
    → IsOrdered (set moments slot moment) xs
ordered_since moments slot moment [] apart ordered = tt
ordered_since moments slot moment (x ∷ xs) apart ordered =
    let here : slice_index (set moments slot moment) x ≡ slice_index moments x = get_or-set_other moments slot x moment 0 apart.0 in
    (rw here (older_since moments slot moment (slice_index moments x) xs apart.1 ordered.0), ordered_since moments slot moment xs apart.1 ordered.1)
  where
    older_since : (moments : List ℕ) (slot moment least : ℕ) (xs : List ℕ) → IsApart slot xs → Each (λ later. slice_index moments later ≤ least) xs
        → Each (λ later. slice_index (set moments slot moment) later ≤ least) xs
    older_since moments slot moment least [] apart each = tt
    older_since moments slot moment least (x ∷ xs) apart each =
        let here : slice_index (set moments slot moment) x ≡ slice_index moments x = get_or-set_other moments slot x moment 0 apart.0 in
        (rw here each.0, older_since moments slot moment least xs apart.1 each.1)

pub length-placed_in : (list_of moments : List ℕ) (slot kind : ℕ) (xs : List ℕ) → slice_index (set list_of slot kind) slot ≡ kind → IsApart slot xs → IsOrdered moments xs
    → length (members (set list_of slot kind) kind (placed moments slot xs)) ≡ length (members list_of kind xs) + 1
length-placed_in list_of moments slot kind xs is apart ordered =
    let here : nat_eq (slice_index (set list_of slot kind) slot) kind ≡ true = eq-eqb _ _ is in
    let at = filter-placed (λ x. nat_eq (slice_index (set list_of slot kind) x) kind) moments slot xs here ordered in
    let same = members-set list_of slot kind kind xs apart in
    let long = length-placed moments slot (members list_of kind xs) in
    ap length at ∙ ap (λ (ys : List ℕ). length (placed moments slot ys)) same ∙ long ∙ (omega arith)

pub length-placed_out : (list_of moments : List ℕ) (slot kind other : ℕ) (xs : List ℕ) → slice_index (set list_of slot kind) slot ≡ kind → IsApart slot xs → other ≢ kind
    → length (members (set list_of slot kind) other (placed moments slot xs)) ≡ length (members list_of other xs)
length-placed_out list_of moments slot kind other xs is apart off =
    let here : nat_eq (slice_index (set list_of slot kind) slot) other ≡ false = rw is (ne_eqb kind other (λ e. off (sym e))) in
    ap length (filter-placed_out (λ x. nat_eq (slice_index (set list_of slot kind) x) other) moments slot xs here)
    ∙ ap length (members-set list_of slot kind other xs apart)

pub length-without_in : (list_of : List ℕ) (slot : ℕ) (xs : List ℕ) → has slot xs ≡ true → IsDistinct xs
    → length (members list_of (slice_index list_of slot) (without slot xs)) + 1 ≡ length (members list_of (slice_index list_of slot) xs)
length-without_in list_of slot xs here distinct =
    let kind = slice_index list_of slot in
    let p : ℕ → Bool = λ x. nat_eq (slice_index list_of x) (slice_index list_of slot) in
    let among : has slot (filter p xs) ≡ true = has-filter p slot xs (eq-eqb _ _ refl) here in
    let swapped : filter p (without slot xs) ≡ without slot (filter p xs) = filter-filter p (λ x. not (nat_eq x slot)) xs in
    rw swapped (length-without slot (filter p xs) among (distinct_filter p xs distinct))

pub length-without_out : (list_of : List ℕ) (slot other : ℕ) (xs : List ℕ) → other ≢ slice_index list_of slot
    → length (members list_of other (without slot xs)) ≡ length (members list_of other xs)
length-without_out list_of slot other xs off =
    let p : ℕ → Bool = λ x. nat_eq (slice_index list_of x) other in
    let swapped : filter p (without slot xs) ≡ without slot (filter p xs) = filter-filter p (λ x. not (nat_eq x slot)) xs in
    let apart : IsApart slot (filter p xs) = each_weaker (λ x. p x ≡ true) (λ x. x ≢ slot)
    (λ x is e. off (sym (eqb-true (slice_index list_of slot) other (rw (← e) is)))) (filter p xs) (each_passes p xs) in
    ap length (swapped ∙ without_none slot (filter p xs) apart)
