-- The numbers of entries, and of entries that changed.
use Rattle.std.proofs.Common.{◌≡◌, ◌<◌, ℕ, ◌-◌, zero, suc, Bool, true, List, [], ◌∷◌, ◌++◌, length, refl, sym, ap, ◌∙◌, inl, inr, arith}
use Rattle.std.specs.Prelude.{Some, slice_get, slice_index, slice_index_or, slice_set, take, swap_remove}
use Rattle.std.specs.Map.{keys_of, lookup}
use Rattle.std.specs.Cmp.{IsEquivalence}
use Rattle.std.proofs.lemmas.Bool.{cases_Bool}
use Rattle.std.proofs.lemmas.List.{get_or-map, map-set, take-map}
use Rattle.indexmap.specs.IndexMap.{insert_entry, set_value_at}
use Rattle.number_table.specs.declared.held.Held.{Held}
use Rattle.number_table.specs.Numbers.{number_of, numbers_of}

module _ {K : Type 0} where
  pub length-numbers_of : (es : List (K × Held)) → length (numbers_of es) ≡ length es
  length-numbers_of [] = refl
  length-numbers_of (e ∷ es) = ap suc (length-numbers_of es)

  -- the number at a place
  pub number_there : (es : List (K × Held)) (place : ℕ) (key : K) (held : Held) → slice_get es place ≡ Some (key, held)
      → slice_index (numbers_of es) place ≡ held.number
  number_there [] place key held h = cc
  number_there (e ∷ es) zero key held h = cc
  number_there (e ∷ es) (suc place) key held h = number_there es place key held h

  pub numbers_of-push : (es : List (K × Held)) (key : K) (held : Held) → numbers_of (es ++ (key, held) ∷ []) ≡ numbers_of es ++ held.number ∷ []
  numbers_of-push [] key held = refl
  numbers_of-push (e ∷ es) key held = ap (λ (l : List ℕ). e.1.number ∷ l) (numbers_of-push es key held)

  -- an entry with the same number
  pub numbers_of-set_value_at : (es : List (K × Held)) (place : ℕ) (key : K) (held new : Held) → slice_get es place ≡ Some (key, held)
      → new.number ≡ held.number → numbers_of (set_value_at es place new) ≡ numbers_of es
  numbers_of-set_value_at [] place key held new h n = refl
  numbers_of-set_value_at (e ∷ es) zero key held new h n = let k : e.1.number ≡ new.number = cc in ap (λ (x : ℕ). x ∷ numbers_of es) (sym k)
  numbers_of-set_value_at (e ∷ es) (suc place) key held new h n =
      ap (λ (l : List ℕ). e.1.number ∷ l) (numbers_of-set_value_at es place key held new h n)

  pub keys_of-set_value_at : (es : List (K × Held)) (place : ℕ) (new : Held) → keys_of (set_value_at es place new) ≡ keys_of es
  keys_of-set_value_at [] place new = refl
  keys_of-set_value_at (e ∷ es) zero new = refl
  keys_of-set_value_at (e ∷ es) (suc place) new = ap (λ (l : List K). e.0 ∷ l) (keys_of-set_value_at es place new)

  pub length-set_value_at : (es : List (K × Held)) (place : ℕ) (new : Held) → length (set_value_at es place new) ≡ length es
  length-set_value_at [] place new = refl
  length-set_value_at (e ∷ es) zero new = refl
  length-set_value_at (e ∷ es) (suc place) new = ap suc (length-set_value_at es place new)

  -- the last stands in the place of one that is taken out
  pub numbers_of-swap_remove : (es : List (K × Held)) (place : ℕ) (e : K × Held) → place < length es
      → numbers_of (swap_remove es place e) ≡ take (length es - 1) (slice_set (numbers_of es) place (slice_index (numbers_of es) (length es - 1)))
  numbers_of-swap_remove es place e within =
      let last = slice_index_or es (length es - 1) e in
      let there : number_of last.1 ≡ slice_index (numbers_of es) (length es - 1) =
      sym (get_or-map (λ (e : K × Held). number_of e.1) es (length es - 1) e 0 (omega arith)) in
      sym (take-map (λ (e : K × Held). number_of e.1) (length es - 1) (slice_set es place last))
      ∙ ap (take (length es - 1)) (map-set (λ (e : K × Held). number_of e.1) es place last
      ∙ ap (slice_set (numbers_of es) place) there)

module _ {K : Type 0} (eq : K → K → Bool) where
  pub numbers_of-insert_entry : (es : List (K × Held)) (key : K) (held new : Held) → lookup (eq key) es ≡ Some held → new.number ≡ held.number
      → numbers_of (insert_entry eq es key new) ≡ numbers_of es
  numbers_of-insert_entry [] key held new h n = cc
  numbers_of-insert_entry (e ∷ es) key held new h n = elim (cases_Bool (eq key e.0)) [
    | inl hit ↦ let there = rw hit at h in let same : new.number ≡ e.1.number = cc in rw hit (ap (λ (x : ℕ). x ∷ numbers_of es) same)
    | inr miss ↦ let there = rw miss at h in rw miss (ap (λ (l : List ℕ). e.1.number ∷ l) (numbers_of-insert_entry es key held new there n))
  ]

  pub length-insert_entry : (es : List (K × Held)) (key : K) (held new : Held) → lookup (eq key) es ≡ Some held
      → length (insert_entry eq es key new) ≡ length es
  length-insert_entry [] key held new h = cc
  length-insert_entry (e ∷ es) key held new h = elim (cases_Bool (eq key e.0)) [
    | inl hit ↦ rw hit refl
    | inr miss ↦ let there = rw miss at h in rw miss (ap suc (length-insert_entry es key held new there))
  ]

  -- equal keys find the same
  pub lookup-equal : IsEquivalence eq → (a b : K) → eq a b ≡ true → (es : List (K × Held)) → lookup (eq a) es ≡ lookup (eq b) es
  lookup-equal laws a b same [] = refl
  lookup-equal laws a b same (e ∷ es) = rw (laws.congr a b e.0 same, lookup-equal laws a b same es) refl
