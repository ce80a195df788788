-- The members of lists, as slots come and go.
use Rattle.std.proofs.Common.{◌≡◌, ℕ, ◌≤◌, Bool, true, false, List, [], ◌∷◌, set, get_or-set_other, ap, sym, refl, inl, inr, arith}
use Rattle.std.specs.Prelude.{filter, nat_eq, nat_le, slice_index}
use Rattle.std.proofs.lemmas.Bool.{cases_Bool, eqb-true, le-leb, leb-true}
use Rattle.slot_lists.specs.Orders.{Each, IsApart, IsOrdered, has, members, placed}
use Rattle.slot_lists.proofs.Each.{each_filter, each_weaker}

-- a slot that isn't among others is given a list
pub members-set : (list_of : List ℕ) (slot to list : ℕ) (order : List ℕ) → IsApart slot order
    → members (set list_of slot to) list order ≡ members list_of list order
members-set list_of slot to list [] apart = refl
members-set list_of slot to list (x ∷ order) apart =
    let same : slice_index (set list_of slot to) x ≡ slice_index list_of x = get_or-set_other list_of slot x to 0 apart.0 in
    elim (cases_Bool (nat_eq (slice_index list_of x) list)) [
      | inl hit ↦ rw (same, hit) (ap (λ (rest : List ℕ). x ∷ rest) (members-set list_of slot to list order apart.1))
      | inr miss ↦ rw (same, miss) (members-set list_of slot to list order apart.1)
    ]

placed_first : (moments : List ℕ) (slot : ℕ) (xs : List ℕ) → Each (λ x. slice_index moments x ≤ slice_index moments slot) xs
    → placed moments slot xs ≡ slot ∷ xs
placed_first moments slot [] each = refl
placed_first moments slot (x ∷ xs) each =
    let older : nat_le (slice_index moments x) (slice_index moments slot) ≡ true = le-leb _ _ each.0 in
    rw older refl

pub filter-placed : (p : ℕ → Bool) (moments : List ℕ) (slot : ℕ) (xs : List ℕ) → p slot ≡ true → IsOrdered moments xs
    → filter p (placed moments slot xs) ≡ placed moments slot (filter p xs)
filter-placed p moments slot [] in' ordered = rw in' refl
filter-placed p moments slot (x ∷ xs) in' ordered =
    elim (cases_Bool (nat_le (slice_index moments x) (slice_index moments slot))) [
      | inl hit ↦
          let older : slice_index moments x ≤ slice_index moments slot = leb-true _ _ hit in
          let all : Each (λ y. slice_index moments y ≤ slice_index moments slot) (x ∷ xs) = (
            older,
            each_weaker (λ y. slice_index moments y ≤ slice_index moments x) (λ y. slice_index moments y ≤ slice_index moments slot)
                (λ y e. omega (arith, older, e)) xs ordered.0,
          ) in
          let first = placed_first moments slot (filter p (x ∷ xs))
          (each_filter (λ y. slice_index moments y ≤ slice_index moments slot) p (x ∷ xs) all) in
          rw (hit, in') (sym first)
      | inr miss ↦ elim (cases_Bool (p x)) [
        | inl is ↦ rw (miss, is, miss) (ap (λ (rest : List ℕ). x ∷ rest) (filter-placed p moments slot xs in' ordered.1))
        | inr out ↦ rw (miss, out) (filter-placed p moments slot xs in' ordered.1)
      ]
    ]

pub filter-placed_out : (p : ℕ → Bool) (moments : List ℕ) (slot : ℕ) (xs : List ℕ) → p slot ≡ false
    → filter p (placed moments slot xs) ≡ filter p xs
filter-placed_out p moments slot [] out = rw out refl
filter-placed_out p moments slot (x ∷ xs) out =
    elim (cases_Bool (nat_le (slice_index moments x) (slice_index moments slot))) [
      | inl hit ↦ rw (hit, out) refl
      | inr miss ↦ elim (cases_Bool (p x)) [
        | inl is ↦ rw (miss, is) (ap (λ (rest : List ℕ). x ∷ rest) (filter-placed_out p moments slot xs out))
        | inr not' ↦ rw (miss, not') (filter-placed_out p moments slot xs out)
      ]
    ]

pub filter-filter : (p q : ℕ → Bool) (xs : List ℕ) → filter p (filter q xs) ≡ filter q (filter p xs)
filter-filter p q [] = refl
filter-filter p q (x ∷ xs) = elim (cases_Bool (p x)) [
  | inl is_p ↦ elim (cases_Bool (q x)) [
    | inl is_q ↦ rw (is_q, is_p, is_q) (ap (λ (rest : List ℕ). x ∷ rest) (filter-filter p q xs))
    | inr not_q ↦ rw (not_q, is_p, not_q) (filter-filter p q xs)
  ]
  | inr not_p ↦ elim (cases_Bool (q x)) [
    | inl is_q ↦ rw (is_q, not_p) (filter-filter p q xs)
    | inr not_q ↦ rw (not_q, not_p) (filter-filter p q xs)
  ]
]

pub has-filter : (p : ℕ → Bool) (slot : ℕ) (xs : List ℕ) → p slot ≡ true → has slot xs ≡ true → has slot (filter p xs) ≡ true
has-filter p slot [] is here = absurd cc
has-filter p slot (x ∷ xs) is here = elim (cases_Bool (nat_eq x slot)) [
  | inl hit ↦ let one : x ≡ slot = eqb-true x slot hit in let passes : p x ≡ true = rw one is in rw (passes, hit) refl
  | inr miss ↦ elim (cases_Bool (p x)) [
    | inl passes ↦ rw (passes, miss) (has-filter p slot xs is (rw miss at here))
    | inr out ↦ rw out (has-filter p slot xs is (rw miss at here))
  ]
]
