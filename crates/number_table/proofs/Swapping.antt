-- Two numbers that change their places.
use Rattle.std.proofs.Common.{◌≡◌, ◌≢◌, ◌<◌, ℕ, List, length, refl, sym, ap, ◌∙◌, inl, inr, arith}
use Rattle.std.specs.Prelude.{slice_index, slice_set, swap}
use Rattle.std.proofs.lemmas.Bool.{cases_eq}
use Rattle.std.proofs.lemmas.List.{get_or-set_other, get_or-set_same, length-set}
use Rattle.std.proofs.lemmas.List.Edits.{Swapped, length-swap, swapped_from_swap}
use Rattle.number_table.specs.Orders.{AreInverse, HasPlace, StandsAt}

module _ (numbers places : List ℕ) (all : AreInverse numbers places) (a b : ℕ) (a_within : a < length numbers) (b_within : b < length numbers) where
  changed : List ℕ
  changed = swap numbers a b

  moved : List ℕ
  moved = slice_set (slice_set places (slice_index numbers a) b) (slice_index numbers b) a

  swapped : Swapped (λ (i : ℕ). slice_index numbers i) (λ (i : ℕ). slice_index (swap numbers a b) i) a b
  swapped = swapped_from_swap numbers (swap numbers a b) a b 0 a_within b_within refl

  as_long : length (swap numbers a b) ≡ length numbers
  as_long = length-swap numbers a b

  -- where the two stand now
  second_at : slice_index moved (slice_index numbers b) ≡ a
  unfolding moved
  second_at =
      get_or-set_same (slice_set places (slice_index numbers a) b) (slice_index numbers b) a 0
      (omega (arith, length-set {A = ℕ}, all.as_many, (all.stand b b_within).number_within))

  first_at : slice_index numbers a ≢ slice_index numbers b → slice_index moved (slice_index numbers a) ≡ b
  unfolding moved
  first_at apart =
      get_or-set_other (slice_set places (slice_index numbers a) b) (slice_index numbers b) (slice_index numbers a) a 0 apart
      ∙ get_or-set_same places (slice_index numbers a) b 0 (omega (arith, all.as_many, (all.stand a a_within).number_within))

  -- and the others
  other_at : (number : ℕ) → number ≢ slice_index numbers a → number ≢ slice_index numbers b → slice_index moved number ≡ slice_index places number
  unfolding moved
  other_at number not_first not_second =
      get_or-set_other (slice_set places (slice_index numbers a) b) (slice_index numbers b) number a 0 not_second
      ∙ get_or-set_other places (slice_index numbers a) number b 0 not_first

  -- numbers that are the same stand at the same place
  alone : (i j : ℕ) → i < length numbers → j < length numbers → slice_index numbers i ≡ slice_index numbers j → i ≡ j
  alone i j i_within j_within same = sym (all.stand i i_within).there ∙ ap (slice_index places) same ∙ (all.stand j j_within).there

  stands_at : (place : ℕ) → place < length (swap numbers a b) → StandsAt (swap numbers a b) moved place
  stands_at place within_swapped =
      let within : place < length numbers = rw as_long at within_swapped in
      elim (cases_eq place a) [
        | inl first ↦ record {
          number_within = rw (as_long, first, swapped.0) (all.stand b b_within).number_within;
          there = rw (first, swapped.0) second_at;
        }
        | inr not_first ↦ elim (cases_eq place b) [
          | inl second ↦ record {
            number_within = rw (as_long, second, swapped.1) (all.stand a a_within).number_within;
            there = rw (second, swapped.1) (first_at (λ same. not_first (second ∙ sym (alone a b a_within b_within same))));
          }
          | inr not_second ↦ record {
            number_within = rw (as_long, swapped.2 place not_first not_second) (all.stand place within).number_within;
            there = rw (swapped.2 place not_first not_second) (other_at (slice_index numbers place)
                (λ same. not_first (alone place a within a_within same)) (λ same. not_second (alone place b within b_within same))
                ∙ (all.stand place within).there);
          }
        ]
      ]

  has_place : (number : ℕ) → number < length (swap numbers a b) → HasPlace (swap numbers a b) moved number
  has_place number within_swapped =
      let within : number < length numbers = rw as_long at within_swapped in
      elim (cases_eq number (slice_index numbers b)) [
        | inl second ↦ record {
          place_within = rw (as_long, second, second_at) a_within;
          back = rw (second, second_at) swapped.0;
        }
        | inr not_second ↦ elim (cases_eq number (slice_index numbers a)) [
          | inl first ↦
              let at : slice_index moved number ≡ b = ap (slice_index moved) first ∙ first_at (λ same. not_second (first ∙ same)) in
              record { place_within = rw (as_long, at) b_within; back = rw at (swapped.1 ∙ sym first) }
          | inr not_first ↦
              let at = other_at number not_first not_second in
              let has = all.have number within in
              record {
                place_within = rw (as_long, at) has.place_within;
                back = rw at (swapped.2 (slice_index places number) (λ same. not_first (sym has.back ∙ ap (slice_index numbers) same))
                    (λ same. not_second (sym has.back ∙ ap (slice_index numbers) same)) ∙ has.back);
              }
        ]
      ]

  pub inverse-swap : AreInverse (swap numbers a b) (slice_set (slice_set places (slice_index numbers a) b) (slice_index numbers b) a)
  unfolding moved
  inverse-swap = record {
    as_many = omega (arith, length-set {A = ℕ}, all.as_many, as_long);
    few = rw as_long all.few;
    stand = stands_at;
    have = has_place;
  }
