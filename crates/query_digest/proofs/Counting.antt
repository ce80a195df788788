-- A key that is counted.
use Rattle.std.proofs.Common.{◌≡◌, ◌<◌, ◌≤◌, ℕ, ◌+◌, ◌-◌, ◌^◌, min, true, false, nat_eq, length, List, [], ◌∷◌, ◌++◌, Option, option_copied, Bor, Some, None, Result, Ok, Err, OnErr, refl, sym, ◌∙◌, ap, inl, inr, arith}
use Rattle.std.specs.Map.{lookup}
use Rattle.std.proofs.lemmas.Bool.{cond-true, cond-false, cases_Bool, or_left, or_right, or_from, eq-eqb, ne_eqb}
use Rattle.indexmap.specs.IndexMap.{insert_entry}
use Rattle.query_digest.specs.declared.table.DigestKey.{DigestKey}
use Rattle.query_digest.specs.Table.{same_key, has_key, one_more, counted}
use Rattle.query_digest.specs.declared.table.Counted.TheVariants.{Added, First, Full}

-- a key with a count has an entry, and one more of it is its entry with one more
seen_key : (table : List (DigestKey × ℕ)) (key : DigestKey) (n : ℕ) → lookup (same_key key) table ≡ Some n → (has_key table key ≡ true) × (insert_entry same_key table key (min (n + 1) (2 ^ 64 - 1)) ≡ one_more table key)
seen_key [] key n h = absurd (cc)
seen_key (entry ∷ table) key n h =
    let here = same_key key entry.0 in
    elim (cases_Bool here) [
      | inl e ↦
          let found : Some entry.1 ≡ Some n = sym (cond-true here (Some entry.1) (lookup (same_key key) table) e) ∙ h in
          let same : entry.1 ≡ n = cc in
          (or_left here (has_key table key) e, cond-true here _ _ e ∙ ap (λ (m : ℕ). (entry.0, min (m + 1) (2 ^ 64 - 1)) ∷ table) (sym same) ∙ sym (cond-true here _ _ e))
      | inr e ↦
          let rest = seen_key table key n (sym (cond-false here (Some entry.1) (lookup (same_key key) table) e) ∙ h) in
          (or_right here (has_key table key) rest.0, cond-false here _ _ e ∙ ap (λ (es : List (DigestKey × ℕ)). entry ∷ es) rest.1 ∙ sym (cond-false here _ _ e))
    ]

-- a key without one goes last
new_key : (table : List (DigestKey × ℕ)) (key : DigestKey) → lookup (same_key key) table ≡ None → (has_key table key ≡ false) × ((n : ℕ) → insert_entry same_key table key n ≡ table ++ (key, n) ∷ [])
new_key [] key h = (refl, λ n. refl)
new_key (entry ∷ table) key h =
    let here = same_key key entry.0 in
    elim (cases_Bool here) [
      | inl e ↦ let found : Some entry.1 ≡ None = sym (cond-true here (Some entry.1) (lookup (same_key key) table) e) ∙ h in absurd (cc)
      | inr e ↦
          let rest = new_key table key (sym (cond-false here (Some entry.1) (lookup (same_key key) table) e) ∙ h) in
          (or_from here (has_key table key) e rest.0, λ n. cond-false here _ _ e ∙ ap (λ (es : List (DigestKey × ℕ)). entry ∷ es) (rest.1 n))
    ]

-- what counting gives, by what a look-up finds
pub counted-seen : (table : List (DigestKey × ℕ)) (key : DigestKey) (n : ℕ) → lookup (same_key key) table ≡ Some n → counted table key ≡ (Added, insert_entry same_key table key (min (n + 1) (2 ^ 64 - 1)))
counted-seen table key n h = let seen = seen_key table key n h in cond-true (has_key table key) _ _ seen.0 ∙ ap (λ (entries : List (DigestKey × ℕ)). (Added, entries)) (sym seen.1)

pub counted-full : (table : List (DigestKey × ℕ)) (key : DigestKey) → lookup (same_key key) table ≡ None → length table ≡ 10000 → counted table key ≡ (Full, table)
counted-full table key none full = cond-false (has_key table key) _ _ (new_key table key none).0 ∙ cond-true (nat_eq (length table) 10000) _ _ (eq-eqb (length table) 10000 full)

pub counted-new : (table : List (DigestKey × ℕ)) (key : DigestKey) → lookup (same_key key) table ≡ None → (length table ≡ 10000 → ⊥) → counted table key ≡ (First, insert_entry same_key table key 1)
counted-new table key none room =
    let new = new_key table key none in
    cond-false (has_key table key) _ _ new.0 ∙ cond-false (nat_eq (length table) 10000) _ _ (ne_eqb (length table) 10000 room) ∙ ap (λ (entries : List (DigestKey × ℕ)). (First, entries)) (sym (new.1 1))

-- a look-up that found no reference found no value
pub nothing_found : {X : Type 0} (found : Option (Bor X)) (value : Option X) → option_copied found ≡ value → ((x : Bor X) → found ≡ Some x → ⊥) → value ≡ None
nothing_found None value same none = sym same
nothing_found (Some x) value same none = absurd (none x refl)

-- a new key for which there is room, whatever the outcome
pub only_new : {A E : Type 0} (table : List (DigestKey × ℕ)) (key : DigestKey) (r : Result A E) → lookup (same_key key) table ≡ None → length table ≤ 10000 → (length table ≡ 10000 → ⊥) → OnErr r ((has_key table key ≡ false) × (length table < 10000))
only_new table key (Ok x) none most room = tt
only_new table key (Err e) none most room = ((new_key table key none).0, omega arith)
