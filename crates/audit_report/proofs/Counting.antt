-- A map of tallies once more lines are counted.
use Rattle.std.proofs.Common.{◌≡◌, ℕ, ◌+◌, ◌-◌, ◌^◌, min, true, false, cond, List, [], ◌∷◌, get_or, Option, Some, None, Ordering, ◌<◌, MutBor, sym, refl, ap, ◌∙◌, inl, inr, arith}
use Rattle.std.specs.declared.cmp.Ordering.TheVariants.{Less, Equal, Greater}
use Rattle.std.specs.Ordering.{is_eq, is_lt, ordering_reverse}
use Rattle.std.specs.Option.{option_copied_mut}
use Rattle.std.specs.List.{AllByRecursion, IsDistinct}
use Rattle.std.specs.List.Sorted.{IsSorted, IsStrictlySortedBy}
use Rattle.std.specs.Map.{keys_of, lookup}
use Rattle.std.proofs.lemmas.Bool.{cases_Bool}
use Rattle.std.proofs.lemmas.Map.{lookup-none}
use Rattle.std.proofs.lemmas.Map.Entries.{none_past_head}
use Rattle.std.proofs.lemmas.Map.Keys.{IsDistinct-tail, apart_from_distinct, sorted_from_all_adjacent}
use Rattle.audit_report.specs.Keys.{key_cmp, same_key}
use Rattle.audit_report.specs.Tallies.{both, of_key}
use Rattle.audit_report.specs.declared.key.Key.{Key}
use Rattle.audit_report.specs.declared.tally.Tally.{Tally}
use Rattle.audit_report.proofs.KeyOrder.{key-equivalence, key-flip, key-itself, key-ties, key-total, same-keys}
use Rattle.audit_report.proofs.Tallying.{both-none}

-- what is known of each key, once more lines of one key are counted
module _ (old new : Key → Option Tally) (key : Key) (later : Tally) where
  pub count-found : (tally : Tally) → old key ≡ Some tally
      → ((q : Key) → new q ≡ cond (same_key key q) (Some (record { count = min (tally.count + later.count) (2 ^ 64 - 1); first = tally.first })) (old q))
      → (q : Key) → new q ≡ both (old q) (of_key key later q)
  count-found tally found now q = elim (cases_Bool (same_key key q)) [
    | inl same ↦
        let here : old q ≡ Some tally = ap old (sym (same-keys key q same)) ∙ found in
        now q ∙ rw (same, here) refl
    | inr other ↦ now q ∙ rw other (sym (both-none (old q)))
  ]

  pub count-new : old key ≡ None → ((q : Key) → new q ≡ cond (same_key key q) (Some later) (old q)) → (q : Key) → new q ≡ both (old q) (of_key key later q)
  count-new none now q = elim (cases_Bool (same_key key q)) [
    | inl same ↦
        let here : old q ≡ None = ap old (sym (same-keys key q same)) ∙ none in
        now q ∙ rw (same, here) refl
    | inr other ↦ now q ∙ rw other (sym (both-none (old q)))
  ]

-- the first of what is left is counted, and the rest is left
pub left-counted : (old : Option Tally) (now : Option Tally) (e : Key × Tally) (left : List (Key × Tally)) (q : Key) → IsDistinct same_key (keys_of (e ∷ left)) → now ≡ both old (of_key e.0 e.1 q)
    → both now (lookup (same_key q) left) ≡ both old (lookup (same_key q) (e ∷ left))
left-counted old now e left q apart is = elim (cases_Bool (same_key e.0 q)) [
  | inl same ↦
      let here : same_key q e.0 ≡ true = key-flip q e.0 ∙ same in
      let none : lookup (same_key q) left ≡ None = lookup-none (same_key q) left (none_past_head key-equivalence q e left apart here) in
      rw (is, same, none, here) (both-none (both old (Some e.1)))
  | inr other ↦
      let away : same_key q e.0 ≡ false = key-flip q e.0 ∙ other in
      rw (is, other, away) (ap (λ o. both o (lookup (same_key q) left)) (both-none old))
]

-- a look-up that found no reference found no value
pub nothing-found : {X : Type 0} (found : Option (MutBor X)) (value : Option X) → option_copied_mut found ≡ value → ((x : MutBor X) → found ≡ Some x → ⊥) → value ≡ None
nothing-found None value same none = sym same
nothing-found (Some x) value same none = absurd (none x refl)

not-both : (tally : Tally) (found : Option Tally) → found ≡ Some tally → found ≡ None → ⊥
not-both tally found some none = (let no : Some tally ≡ None = sym some ∙ none in absurd (cc))

-- the first line of each key is there
pub all-there : (n : ℕ) (es : List (Key × Tally)) → IsDistinct same_key (keys_of es) → ((q : Key) (tally : Tally) → lookup (same_key q) es ≡ Some tally → tally.first < n) → AllByRecursion (λ (e : Key × Tally). e.1.first < n) es
all-there n [] apart there = tt
all-there n (e ∷ es) apart there =
    let own : same_key e.0 e.0 ≡ true = key-itself e.0 in (
      there e.0 e.1 (rw own refl),
      all-there n es (IsDistinct-tail same_key e.0 (keys_of es) apart) (λ q tally found. elim (cases_Bool (same_key q e.0)) [
        | inl same ↦ absurd (not-both tally (lookup (same_key q) es) found (lookup-none (same_key q) es (none_past_head key-equivalence q e es apart same)))
        | inr other ↦ there q tally (rw other found)
      ]),
    )

rises : (r s : Ordering) → r ≡ ordering_reverse s → is_lt s ≡ false → is_eq r ≡ false → r ≡ Less
rises r Less back lt eq = absurd (cc)
rises r Equal back lt eq = (let no : true ≡ false = sym (ap is_eq back) ∙ eq in absurd (cc))
rises r Greater back lt eq = back

none-rising : IsStrictlySortedBy key_cmp []
unfolding IsStrictlySortedBy
none-rising = tt

-- keys that don't fall and differ rise
pub rising : (ks : List Key) → IsSorted key_cmp ks → IsDistinct same_key ks → IsStrictlySortedBy key_cmp ks
rising [] sorted apart = none-rising
rising (k ∷ ks) sorted apart = sorted_from_all_adjacent key-total (k ∷ ks) k (λ i below.
    let a = get_or (k ∷ ks) i k in
    let b = get_or (k ∷ ks) (i + 1) k in
    rises (key_cmp a b) (key_cmp b a) (key-total.antisymm a b) (sorted i k (omega arith) below) (sym (key-ties a b) ∙ apart_from_distinct same_key (k ∷ ks) i (i + 1) k apart (omega arith) below))
