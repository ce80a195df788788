-- One who holds a number's key less.
use Rattle.std.proofs.Common.{◌≡◌, ◌<◌, ◌≤◌, ℕ, ◌-◌, Bool, true, false, cond, List, length, refl, sym, ap, subst, ◌∙◌, inl, inr, arith}
use Rattle.std.specs.Prelude.{Option, Some, None, IfSome, slice_get, slice_index, slice_set, swap, swap_remove}
use Rattle.std.specs.Option.{option_and_then}
use Rattle.std.specs.List.{IsDistinct}
use Rattle.std.specs.Map.{keys_of, lookup}
use Rattle.std.specs.Cmp.{IsEquivalence}
use Rattle.std.proofs.lemmas.Bool.{cases_eq, ne_eqb}
use Rattle.std.proofs.lemmas.List.{get_or-set_other, get_or-set_same, get_or-take, length-set, length-take}
use Rattle.std.proofs.lemmas.List.Edits.{Swapped, length-swap, swapped_from_swap}
use Rattle.std.proofs.lemmas.Option.{slice_get_within}
use Rattle.number_table.specs.declared.held.Held.{Held}
use Rattle.number_table.specs.Numbers.{Changes, IsFree, IsTable, Numbered, number_at, numbers_of, one_less}
use Rattle.number_table.proofs.Lists.{keys_of-set_value_at, length-numbers_of, length-set_value_at, number_there, numbers_of-set_value_at, numbers_of-swap_remove}
use Rattle.number_table.proofs.Numbering.{number_by_place, stands}
use Rattle.indexmap.specs.IndexMap.{set_value_at}

pub some_at : {A : Type 0} (P : A → Type 0) (o : Option A) (x : A) → o ≡ Some x → IfSome o P → P x
some_at P o x is h = subst (λ o. IfSome o P) is h

held_or : {K : Type 0} → Held → Option (K × Held) → Held
held_or held None = held
held_or held (Some e) = e.1

key_or : {K : Type 0} → K → Option (K × Held) → K
key_or key None = key
key_or key (Some e) = e.0

pub one_less-some : (held : Held) → 0 < held.others → Some (record { number = held.number; others = held.others - 1 }) ≡ one_less held
one_less-some held some = rw (ne_eqb held.others 0 (omega arith)) refl

pub one_less-none : (held : Held) → held.others ≤ 0 → None ≡ one_less held
one_less-none held none = let zero_others : held.others ≡ 0 = omega arith in rw zero_others refl

module _ {K : Type 0} {eq : K → K → Bool} (laws : IsEquivalence eq) {entries : List (K × Held)} {order : List ℕ} {most : ℕ}
    (t : IsTable eq entries order most) (number : ℕ) where
  abbrev table : Numbered K
  table = record { entries = entries; slots = length order; most = most }

  module _ (place : ℕ) (alone : (p : ℕ) → p < length order → slice_index order p ≡ number → p ≡ place) (key : K) (held : Held)
      (there : slice_get entries place ≡ Some (key, held)) where
    -- whose number it is finds what stands at its place
    pub found : (other : K) → number_at eq table other ≡ Some number → (eq other key ≡ true) × (lookup (eq other) entries ≡ Some held)
    unfolding key_or held_or
    found other h =
        let x = stands laws t other number h in
        let here : x.place ≡ place = alone x.place (omega (arith, t.room, x.within)) x.ordered in
        let both : slice_get entries x.place ≡ Some (key, held) = ap (slice_get entries) here ∙ there in
        (ap (eq other) (ap (key_or key) (sym both ∙ x.there)) ∙ x.equal, x.found ∙ ap (λ (o : Option (K × Held)). Some (held_or held o)) (sym x.there ∙ both))

    -- so one key changes, and no other
    pub changes : (new : List (K × Held)) (left : Option Held) (slots bound : ℕ) → left ≡ one_less held
        → ((other : K) → lookup (eq other) new ≡ cond (eq key other) left (lookup (eq other) entries)) → (other : K)
        → number_at eq table other ≡ Some number
        → Changes eq table (record { entries = new; slots = slots; most = bound }) other (option_and_then one_less (lookup (eq other) entries))
    changes new left slots bound is updates other h =
        let at = found other h in
        let back : eq key other ≡ true = laws.symm key other ∙ at.0 in
        record {
          same = rw (updates other, back, at.1) is;
          others = λ third apart.
              let off : eq key third ≡ false = sym (laws.congr other key third at.0) ∙ apart in
              rw (updates third, off) refl;
        }

  pub never_free : (place : ℕ) (key : K) (held : Held) → slice_get entries place ≡ Some (key, held) → slice_index order place ≡ number
      → IsFree eq table number → ⊥
  never_free place key held there is free = free key (number_by_place laws t place key held there ∙ ap Some is)

module _ {K : Type 0} {eq : K → K → Bool} {entries : List (K × Held)} {order : List ℕ} {most : ℕ} (t : IsTable eq entries order most) where
  pub own_number : (place : ℕ) (key : K) (held : Held) (number : ℕ) → slice_get entries place ≡ Some (key, held) → slice_index order place ≡ number
      → number ≡ held.number
  own_number place key held number there is =
      sym is ∙ sym (t.first place (slice_get_within entries place (key, held) there)) ∙ number_there entries place key held there

  -- one less holds a key that others hold
  pub lessened_table : (place : ℕ) (key : K) (held new : Held) → slice_get entries place ≡ Some (key, held) → new.number ≡ held.number
      → IsTable eq (set_value_at entries place new) order most
  lessened_table place key held new there same = record {
    unique = subst (IsDistinct eq) (sym (keys_of-set_value_at entries place new)) t.unique;
    room = rw (length-set_value_at entries place new) t.room;
    few = t.few;
    first = λ p below. rw (numbers_of-set_value_at entries place key held new there same)
        (t.first p (rw (length-set_value_at entries place new) at below));
  }

  -- the last stands in the place of one that is taken out, and their numbers too
  pub removed_table : (place last : ℕ) (e : K × Held) → last ≡ length entries - 1 → place < length entries
      → IsDistinct eq (keys_of (swap_remove entries place e)) → IsTable eq (swap_remove entries place e) (swap order place last) most
  removed_table place last e is within unique = record {
    unique = unique;
    room = rw (length-swap order place last) (omega (arith, shorter, t.room));
    few = rw (length-swap order place last) t.few;
    first = λ p below.
        let p_below : p < length entries - 1 = omega (arith, shorter, below) in
        rw (
          numbers_of-swap_remove entries place e within,
          get_or-take (length entries - 1) (slice_set (numbers_of entries) place (slice_index (numbers_of entries) (length entries - 1))) p 0 p_below,
        )
        (elim (cases_eq p place) [
          | inl here ↦ rw (here, get_or-set_same (numbers_of entries) place (slice_index (numbers_of entries) (length entries - 1)) 0 (rw (length-numbers_of entries) within), swapped.0, is)
              (t.first (length entries - 1) (omega (arith, within)))
          | inr not_here ↦ rw (
            get_or-set_other (numbers_of entries) place p (slice_index (numbers_of entries) (length entries - 1)) 0 not_here,
            swapped.2 p not_here (λ same. absurd (omega (arith, is, same, p_below))),
          )
              (t.first p (omega (arith, p_below)))
        ]);
  }
    where
      shorter : length (swap_remove entries place e) ≡ length entries - 1
      shorter = simp (length-take, length-set) (omega arith)

      swapped : Swapped (λ (i : ℕ). slice_index order i) (λ (i : ℕ). slice_index (swap order place last) i) place last
      swapped = swapped_from_swap order (swap order place last) place last 0 (omega (arith, t.room, within)) (omega (arith, t.room, within, is)) refl
