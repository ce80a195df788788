-- Lists that are cut where a test passes.
use Rattle.std.specs.Prelude.{◌≡◌, ℕ, ◌+◌, ◌-◌, ◌<◌, ◌≤◌, Bool, true, false, cond, nat_lt, List, [], ◌∷◌, length, take, drop, Some, None, refl, position}
use Rattle.std.specs.List.{slice_split, onto_first, position_or_len}
use Rattle.std.proofs.Common.{sym, ap, ◌∙◌, inl, inr, arith}
use Rattle.std.proofs.lemmas.Bool.{cases_Bool, ltb-true, ltb-false}
use Rattle.std.proofs.lemmas.List.{take_rest}
use Rattle.std.proofs.lemmas.List.Splits.{slice_split-cons_yes, slice_split-cons_no, slice_split_first}

split_past : (p : ℕ → Bool) (xs : List ℕ) → length xs ≤ position_or_len p xs → slice_split p xs ≡ xs ∷ []
split_past p [] past = refl
split_past p (x ∷ xs) past = elim (cases_Bool (p x)) [
  | inl here ↦ absurd (let at : position_or_len p (x ∷ xs) ≡ 0 = rw here refl in omega arith)
  | inr other ↦ slice_split-cons_no p x xs other ∙ ap (onto_first x) (split_past p xs (let later : position_or_len p (x ∷ xs) ≡ 1 + position_or_len p xs = rw other refl in omega arith))
]

split_none : (p : ℕ → Bool) (xs : List ℕ) (b : Bool) → nat_lt (position_or_len p xs) (length xs) ≡ b → None ≡ cond b (Some (position_or_len p xs)) None → slice_split p xs ≡ xs ∷ []
split_none p xs true is none = cc
split_none p xs false is none = split_past p xs (ltb-false (position_or_len p xs) (length xs) is)

split_some : (p : ℕ → Bool) (xs : List ℕ) (at : ℕ) (b : Bool) → nat_lt (position_or_len p xs) (length xs) ≡ b → Some at ≡ cond b (Some (position_or_len p xs)) None
    → slice_split p xs ≡ take at xs ∷ slice_split p (drop (at + 1) xs)
split_some p xs at false is some = cc
split_some p xs at true is some =
    let here : at ≡ position_or_len p xs = cc in
    rw here (slice_split_first p xs 0 (ltb-true (position_or_len p xs) (length xs) is))

-- a list without a place to cut, and one that is cut first at a place
pub uncut : (p : ℕ → Bool) (xs : List ℕ) → None ≡ position p xs → slice_split p xs ≡ xs ∷ []
uncut p xs none = split_none p xs (nat_lt (position_or_len p xs) (length xs)) refl none

pub cut : (p : ℕ → Bool) (xs : List ℕ) (at : ℕ) → Some at ≡ position p xs → slice_split p xs ≡ take at xs ∷ slice_split p (take (length xs - (at + 1)) (drop (at + 1) xs))
cut p xs at some = split_some p xs at (nat_lt (position_or_len p xs) (length xs)) refl some ∙ ap (λ rest. take at xs ∷ slice_split p rest) (sym (take_rest xs (at + 1)))

-- a list has a first piece
pub some_piece : (p : ℕ → Bool) (xs : List ℕ) → (first : List ℕ) × (rest : List (List ℕ)) × (slice_split p xs ≡ first ∷ rest)
some_piece p [] = ([], [], refl)
some_piece p (x ∷ xs) = elim (cases_Bool (p x)) [
  | inl here ↦ ([], slice_split p xs, slice_split-cons_yes p x xs here)
  | inr other ↦ let later = some_piece p xs in (x ∷ later.0, later.1, slice_split-cons_no p x xs other ∙ ap (onto_first x) later.2)
]

-- the place of a cut is in the list
found_at : (p : ℕ → Bool) (xs : List ℕ) (at : ℕ) (b : Bool) → nat_lt (position_or_len p xs) (length xs) ≡ b → Some at ≡ cond b (Some (position_or_len p xs)) None → at < length xs
found_at p xs at false is some = cc
found_at p xs at true is some =
    let here : at ≡ position_or_len p xs = cc in
    let inside = ltb-true (position_or_len p xs) (length xs) is in
    omega arith

pub found_inside : (p : ℕ → Bool) (xs : List ℕ) (at : ℕ) → Some at ≡ position p xs → at < length xs
found_inside p xs at some = found_at p xs at (nat_lt (position_or_len p xs) (length xs)) refl some
