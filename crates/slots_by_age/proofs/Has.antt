-- Who is among slots, as they come and go.
use Rattle.std.proofs.Common.{◌≡◌, ◌≢◌, ℕ, zero, suc, ◌<◌, ◌≤◌, ◌+◌, true, false, List, [], ◌∷◌, length, refl, inl, inr, arith}
use Rattle.std.specs.Prelude.{nat_eq, nat_le, not, slice_index}
use Rattle.std.proofs.lemmas.Bool.{cases_Bool, eqb-true, eq-eqb, ne_eqb}
use Rattle.slot_lists.specs.Orders.{Each, IsApart, IsDistinct, has, placed, without}
use Rattle.slot_lists.proofs.Each.{distinct_filter, without_none}

pub apart_has : (slot : ℕ) (xs : List ℕ) → IsApart slot xs → has slot xs ≡ false
apart_has slot [] apart = refl
apart_has slot (x ∷ xs) apart = let other : nat_eq x slot ≡ false = ne_eqb x slot apart.0 in rw other (apart_has slot xs apart.1)

pub has_apart : (slot : ℕ) (xs : List ℕ) → has slot xs ≡ false → IsApart slot xs
has_apart slot [] none = tt
has_apart slot (x ∷ xs) none = elim (cases_Bool (nat_eq x slot)) [
  | inl hit ↦ absurd (let bad : true ≡ false = rw hit at none in cc)
  | inr miss ↦ (λ e. let hit : nat_eq x slot ≡ true = eq-eqb x slot e in cc, has_apart slot xs (rw miss at none))
]

pub has-placed_same : (moments : List ℕ) (slot : ℕ) (xs : List ℕ) → has slot (placed moments slot xs) ≡ true
has-placed_same moments slot [] = let same : nat_eq slot slot ≡ true = eq-eqb slot slot refl in rw same refl
has-placed_same moments slot (x ∷ xs) =
    let same : nat_eq slot slot ≡ true = eq-eqb slot slot refl in
    elim (cases_Bool (nat_le (slice_index moments x) (slice_index moments slot))) [
      | inl hit ↦ rw (hit, same) refl
      | inr miss ↦ elim (cases_Bool (nat_eq x slot)) [
        | inl is ↦ rw (miss, is) refl
        | inr other ↦ rw (miss, other) (has-placed_same moments slot xs)
      ]
    ]

pub has-placed_other : (moments : List ℕ) (slot other : ℕ) (xs : List ℕ) → nat_eq slot other ≡ false
    → has other (placed moments slot xs) ≡ has other xs
has-placed_other moments slot other [] apart = rw apart refl
has-placed_other moments slot other (x ∷ xs) apart =
    elim (cases_Bool (nat_le (slice_index moments x) (slice_index moments slot))) [
      | inl hit ↦ rw (hit, apart) refl
      | inr miss ↦ elim (cases_Bool (nat_eq x other)) [
        | inl is ↦ rw (miss, is) refl
        | inr off ↦ rw (miss, off) (has-placed_other moments slot other xs apart)
      ]
    ]

pub apart-without : (slot : ℕ) (xs : List ℕ) → IsApart slot (without slot xs)
apart-without slot [] = tt
apart-without slot (x ∷ xs) = elim (cases_Bool (nat_eq x slot)) [
  | inl hit ↦ rw hit (apart-without slot xs)
  | inr miss ↦ rw miss (λ e. let hit : nat_eq x slot ≡ true = eq-eqb x slot e in cc, apart-without slot xs)
]

pub has-without_other : (slot other : ℕ) (xs : List ℕ) → nat_eq slot other ≡ false → has other (without slot xs) ≡ has other xs
has-without_other slot other [] apart = refl
has-without_other slot other (x ∷ xs) apart = elim (cases_Bool (nat_eq x slot)) [
  | inl hit ↦
      let one : x ≡ slot = eqb-true x slot hit in
      let off : nat_eq x other ≡ false = rw one apart in
      rw (hit, off) (has-without_other slot other xs apart)
  | inr miss ↦ elim (cases_Bool (nat_eq x other)) [
    | inl is ↦ rw (miss, is) refl
    | inr off ↦ rw (miss, off) (has-without_other slot other xs apart)
  ]
]

-- one that is there is left out
pub length-without : (slot : ℕ) (xs : List ℕ) → has slot xs ≡ true → IsDistinct xs → length (without slot xs) + 1 ≡ length xs
length-without slot [] here distinct = absurd cc
length-without slot (x ∷ xs) here distinct = elim (cases_Bool (nat_eq x slot)) [
  | inl hit ↦
      let one : x ≡ slot = eqb-true x slot hit in
      let rest : without slot xs ≡ xs = without_none slot xs (rw one at distinct.0) in
      rw (hit, rest) (omega arith)
  | inr miss ↦ rw miss (omega (arith, length-without slot xs (rw miss at here) distinct.1))
]

length-without_least : (slot : ℕ) (xs : List ℕ) → IsDistinct xs → length xs ≤ length (without slot xs) + 1
length-without_least slot xs distinct = elim (cases_Bool (has slot xs)) [
  | inl here ↦ omega (arith, length-without slot xs here distinct)
  | inr none ↦ let rest : without slot xs ≡ xs = without_none slot xs (has_apart slot xs none) in rw rest (omega arith)
]

-- apart from the largest each is below it
below_largest : (n : ℕ) (xs : List ℕ) → Each (λ x. x < suc n) xs → Each (λ x. x < n) (without n xs)
below_largest n [] each = tt
below_largest n (x ∷ xs) each = elim (cases_Bool (nat_eq x n)) [
  | inl hit ↦ rw hit (below_largest n xs each.1)
  | inr miss ↦
      let other : x ≢ n = λ e. let hit : nat_eq x n ≡ true = eq-eqb x n e in cc in
      rw miss (omega (arith, other, each.0), below_largest n xs each.1)
]

-- so many numbers are below a number at most
pub few_below : (n : ℕ) (xs : List ℕ) → Each (λ x. x < n) xs → IsDistinct xs → length xs ≤ n
few_below zero [] each distinct = omega arith
few_below zero (x ∷ xs) each distinct = absurd (omega (arith, each.0))
few_below (suc n) xs each distinct =
    omega (
      arith,
      length-without_least n xs distinct,
      few_below n (without n xs) (below_largest n xs each)
          (distinct_filter (λ x. not (nat_eq x n)) xs distinct),
    )

-- with one more that isn't there, there are fewer
pub fewer_below : (n slot : ℕ) (xs : List ℕ) → slot < n → IsApart slot xs → Each (λ x. x < n) xs → IsDistinct xs → length xs < n
fewer_below n slot xs small apart each distinct = let all : length (slot ∷ xs) ≤ n = few_below n (slot ∷ xs) (small, each) (apart, distinct) in omega (arith, all)
