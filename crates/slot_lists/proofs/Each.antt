-- Facts of each slot of a list.
use Rattle.std.proofs.Common.{◌≡◌, ◌≢◌, ℕ, zero, suc, ◌<◌, ◌≤◌, Bool, true, false, List, [], ◌∷◌, length, drop, ap, sym, refl, inl, inr, arith}
use Rattle.std.specs.Prelude.{filter, nat_eq, nat_le, slice_index}
use Rattle.std.proofs.lemmas.Bool.{cases_Bool, eqb-true, ne_eqb, leb-true, leb-false}
use Rattle.slot_lists.specs.Orders.{Each, IsApart, IsDistinct, IsOrdered, has, placed, without}

pub each_weaker : (P Q : ℕ → Type 0) → ((x : ℕ) → P x → Q x) → (xs : List ℕ) → Each P xs → Each Q xs
each_weaker P Q so [] each = tt
each_weaker P Q so (x ∷ xs) each = (so x each.0, each_weaker P Q so xs each.1)

pub each_filter : (P : ℕ → Type 0) (p : ℕ → Bool) (xs : List ℕ) → Each P xs → Each P (filter p xs)
each_filter P p [] each = tt
each_filter P p (x ∷ xs) each = elim (cases_Bool (p x)) [
  | inl hit ↦ rw hit (each.0, each_filter P p xs each.1)
  | inr miss ↦ rw miss (each_filter P p xs each.1)
]

pub each_passes : (p : ℕ → Bool) (xs : List ℕ) → Each (λ x. p x ≡ true) (filter p xs)
each_passes p [] = tt
each_passes p (x ∷ xs) = elim (cases_Bool (p x)) [
  | inl hit ↦ rw hit (hit, each_passes p xs)
  | inr miss ↦ rw miss (each_passes p xs)
]

pub each_both : (P Q : ℕ → Type 0) (xs : List ℕ) → Each P xs → Each Q xs → Each (λ x. P x × Q x) xs
each_both P Q [] p q = tt
each_both P Q (x ∷ xs) p q = ((p.0, q.0), each_both P Q xs p.1 q.1)

pub each_at : (P : ℕ → Type 0) (slot : ℕ) (xs : List ℕ) → has slot xs ≡ true → Each P xs → P slot
each_at P slot [] here each = absurd cc
each_at P slot (x ∷ xs) here each = elim (cases_Bool (nat_eq x slot)) [
  | inl hit ↦ let one : x ≡ slot = eqb-true x slot hit in rw one at each.0
  | inr miss ↦ each_at P slot xs (rw miss at here) each.1
]

pub each_placed : (P : ℕ → Type 0) (moments : List ℕ) (slot : ℕ) (xs : List ℕ) → P slot → Each P xs → Each P (placed moments slot xs)
each_placed P moments slot [] p each = (p, tt)
each_placed P moments slot (x ∷ xs) p each = elim (cases_Bool (nat_le (slice_index moments x) (slice_index moments slot))) [
  | inl hit ↦ rw hit (p, each)
  | inr miss ↦ rw miss (each.0, each_placed P moments slot xs p each.1)
]

pub distinct_filter : (p : ℕ → Bool) (xs : List ℕ) → IsDistinct xs → IsDistinct (filter p xs)
distinct_filter p [] distinct = tt
distinct_filter p (x ∷ xs) distinct = elim (cases_Bool (p x)) [
  | inl hit ↦ rw hit (each_filter (λ other. other ≢ x) p xs distinct.0, distinct_filter p xs distinct.1)
  | inr miss ↦ rw miss (distinct_filter p xs distinct.1)
]

pub distinct_placed : (moments : List ℕ) (slot : ℕ) (xs : List ℕ) → IsApart slot xs → IsDistinct xs → IsDistinct (placed moments slot xs)
distinct_placed moments slot [] apart distinct = (tt, tt)
distinct_placed moments slot (x ∷ xs) apart distinct = elim (cases_Bool (nat_le (slice_index moments x) (slice_index moments slot))) [
  | inl hit ↦ rw hit (apart, distinct)
  | inr miss ↦ rw miss (
    each_placed (λ other. other ≢ x) moments slot xs (λ e. apart.0 (sym e)) distinct.0,
    distinct_placed moments slot xs apart.1 distinct.1,
  )
]

pub ordered_filter : (moments : List ℕ) (p : ℕ → Bool) (xs : List ℕ) → IsOrdered moments xs → IsOrdered moments (filter p xs)
ordered_filter moments p [] ordered = tt
ordered_filter moments p (x ∷ xs) ordered = elim (cases_Bool (p x)) [
  | inl hit ↦ rw hit (
    each_filter (λ later. slice_index moments later ≤ slice_index moments x) p xs ordered.0,
    ordered_filter moments p xs ordered.1,
  )
  | inr miss ↦ rw miss (ordered_filter moments p xs ordered.1)
]

pub ordered_placed : (moments : List ℕ) (slot : ℕ) (xs : List ℕ) → IsOrdered moments xs → IsOrdered moments (placed moments slot xs)
ordered_placed moments slot [] ordered = (tt, tt)
ordered_placed moments slot (x ∷ xs) ordered = elim (cases_Bool (nat_le (slice_index moments x) (slice_index moments slot))) [
  | inl hit ↦
      let older : slice_index moments x ≤ slice_index moments slot = leb-true _ _ hit in
      rw hit (
        (
          older,
          each_weaker (λ later. slice_index moments later ≤ slice_index moments x)
              (λ later. slice_index moments later ≤ slice_index moments slot) (λ later e. omega (arith, older, e)) xs ordered.0,
        ),
        ordered,
      )
  | inr miss ↦
      let newer : slice_index moments slot < slice_index moments x = leb-false _ _ miss in
      rw miss (
        each_placed (λ later. slice_index moments later ≤ slice_index moments x) moments slot xs (omega (arith, newer)) ordered.0,
        ordered_placed moments slot xs ordered.1,
      )
]

-- what isn't there is left out for nothing
pub without_none : (slot : ℕ) (xs : List ℕ) → IsApart slot xs → without slot xs ≡ xs
without_none slot [] apart = refl
without_none slot (x ∷ xs) apart =
    let other : nat_eq x slot ≡ false = ne_eqb x slot apart.0 in
    rw other (ap (λ (rest : List ℕ). x ∷ rest) (without_none slot xs apart.1))

pub length-filter : (p : ℕ → Bool) (xs : List ℕ) → length (filter p xs) ≤ length xs
length-filter p [] = omega arith
length-filter p (x ∷ xs) = elim (cases_Bool (p x)) [
  | inl hit ↦ rw hit (omega (arith, length-filter p xs))
  | inr miss ↦ rw miss (omega (arith, length-filter p xs))
]

pub length-placed : (moments : List ℕ) (slot : ℕ) (xs : List ℕ) → length (placed moments slot xs) ≡ suc (length xs)
length-placed moments slot [] = refl
length-placed moments slot (x ∷ xs) = elim (cases_Bool (nat_le (slice_index moments x) (slice_index moments slot))) [
  | inl hit ↦ rw hit refl
  | inr miss ↦ rw miss (omega (arith, length-placed moments slot xs))
]

pub each_drop : (P : ℕ → Type 0) (i : ℕ) (xs : List ℕ) → Each P xs → Each P (drop i xs)
each_drop P zero xs each = each
each_drop P (suc i) [] each = tt
each_drop P (suc i) (x ∷ xs) each = each_drop P i xs each.1
