-- Different places have different keys.
use Rattle.std.proofs.Common.{◌≡◌, ◌<◌, ◌≤◌, ℕ, suc, Bool, true, false, ◌&&◌, nat_eq, List, [], ◌∷◌, ◌++◌, drop, refl, sym, ap, ◌∙◌, inl, inr, arith}
use Rattle.std.specs.Prelude.{nat_le, slice_index_or}
use Rattle.std.proofs.lemmas.Bool.{cases_Bool, cases_eq, and_parts, eqb-true, leb-true, leb-false}
use Rattle.std.proofs.lemmas.List.{ext_get_or}
use Rattle.session_vars.specs.declared.change.SlotValue.{SlotValue}
use Rattle.session_vars.specs.declared.change.SlotValue.TheVariants.{Default, Text}
use Rattle.session_vars.specs.declared.slot.Slot.{Slot}
use Rattle.session_vars.specs.Settings.{AreSettings, value_at}
use Rattle.session_vars.specs.Slots.{all_slots, place_of}
use Rattle.place_keys.specs.Keys.{place_key, spelled, value_key, values_key}

first : List ℕ → ℕ
first bytes = slice_index_or bytes 0 9

-- what a text's spelling begins with
begins_small : (byte : ℕ) (text rest : List ℕ) → nat_le byte 1 ≡ true → spelled (byte ∷ text) ++ rest ≡ 1 ∷ byte ∷ (spelled text ++ rest)
begins_small byte text rest small = rw small refl

begins_other : (byte : ℕ) (text rest : List ℕ) → nat_le byte 1 ≡ false → spelled (byte ∷ text) ++ rest ≡ byte ∷ (spelled text ++ rest)
begins_other byte text rest other = rw other refl

head : {l r : List ℕ} → l ≡ r → slice_index_or l 0 9 ≡ slice_index_or r 0 9
head e = ap (λ (l : List ℕ). slice_index_or l 0 9) e

tail : {l r : List ℕ} → l ≡ r → drop 1 l ≡ drop 1 r
tail e = ap (λ (l : List ℕ). drop 1 l) e

-- two texts with what stands behind them
pub texts_apart : (a b r s : List ℕ) → spelled a ++ r ≡ spelled b ++ s → (a ≡ b) × (r ≡ s)
texts_apart [] [] r s e = (refl, tail e)
texts_apart [] (y ∷ b) r s e = elim (cases_Bool (nat_le y 1)) [
  | inl small ↦ absurd (omega (arith, head (e ∙ begins_small y b s small)))
  | inr other ↦ absurd (omega (arith, head (e ∙ begins_other y b s other), leb-false y 1 other))
]
texts_apart (x ∷ a) [] r s e = elim (cases_Bool (nat_le x 1)) [
  | inl small ↦ absurd (omega (arith, head (sym e ∙ begins_small x a r small)))
  | inr other ↦ absurd (omega (arith, head (sym e ∙ begins_other x a r other), leb-false x 1 other))
]
texts_apart (x ∷ a) (y ∷ b) r s e = elim (cases_Bool (nat_le x 1)) [
  | inl small ↦ elim (cases_Bool (nat_le y 1)) [
    | inl both ↦
        let whole = tail (sym (begins_small x a r small) ∙ e ∙ begins_small y b s both) in
        let rest = texts_apart a b r s (tail whole) in
        let same : x ≡ y = head whole in
        (ap (λ (z : ℕ). z ∷ a) same ∙ ap (λ (l : List ℕ). y ∷ l) rest.0, rest.1)
    | inr other ↦ absurd (omega (arith, head (sym (begins_small x a r small) ∙ e ∙ begins_other y b s other), leb-false y 1 other))
  ]
  | inr other ↦ elim (cases_Bool (nat_le y 1)) [
    | inl small ↦ absurd (omega (arith, head (sym (begins_other x a r other) ∙ e ∙ begins_small y b s small), leb-false x 1 other))
    | inr both ↦
        let whole = sym (begins_other x a r other) ∙ e ∙ begins_other y b s both in
        let rest = texts_apart a b r s (tail whole) in
        let same : x ≡ y = head whole in
        (ap (λ (z : ℕ). z ∷ a) same ∙ ap (λ (l : List ℕ). y ∷ l) rest.0, rest.1)
  ]
]

-- a default is no text
no_default : (text r s : List ℕ) → 1 ∷ 2 ∷ r ≡ spelled text ++ s → ⊥
no_default [] r s e = omega (arith, head e)
no_default (x ∷ text) r s e = elim (cases_Bool (nat_le x 1)) [
  | inl small ↦ omega (arith, head (tail (e ∙ begins_small x text s small)), leb-true x 1 small)
  | inr other ↦ omega (arith, head (e ∙ begins_other x text s other), leb-false x 1 other)
]

pub values_apart : (v w : SlotValue) (r s : List ℕ) → value_key v ++ r ≡ value_key w ++ s → (v ≡ w) × (r ≡ s)
values_apart Default Default r s e = (refl, tail (tail e))
values_apart Default (Text text) r s e = absurd (no_default text r s e)
values_apart (Text text) Default r s e = absurd (no_default text s r (sym e))
values_apart (Text a) (Text b) r s e = let same = texts_apart a b r s e in (ap Text same.0, same.1)

-- these slots stand at the places from one on to the last
IsRun : (place : ℕ) → List Slot → Type 0
IsRun place [] = place ≡ 67
IsRun place (slot ∷ slots) = (place_of slot ≡ place) × IsRun (suc place) slots

agree : (a b : List SlotValue) (place : ℕ) (slots : List Slot) → IsRun place slots → values_key a slots ≡ values_key b slots → (i : ℕ)
    → place ≤ i → i < 67 → slice_index_or a i Default ≡ slice_index_or b i Default
unfolding IsRun
agree a b place [] run e i above below = absurd (omega (arith, run))
agree a b place (slot ∷ slots) run e i above below =
    let both = values_apart (value_at a slot) (value_at b slot) (values_key a slots) (values_key b slots) e in
    elim (cases_eq i place) [
      | inl here ↦ rw (here, ← run.0) both.0
      | inr later ↦ agree a b (suc place) slots run.1 both.1 i (omega (arith, later)) below
    ]

-- the same as a test that computes
stands_from : (place : ℕ) → List Slot → Bool
stands_from place [] = nat_eq place 67
stands_from place (slot ∷ slots) = nat_eq (place_of slot) place && stands_from (suc place) slots

run_from : (place : ℕ) (slots : List Slot) → stands_from place slots ≡ true → IsRun place slots
unfolding IsRun stands_from
run_from place [] is = eqb-true place 67 is
run_from place (slot ∷ slots) is =
    let both = and_parts (nat_eq (place_of slot) place) (stands_from (suc place) slots) is in
    (eqb-true (place_of slot) place both.0, run_from (suc place) slots both.1)

all_run : IsRun 0 all_slots
unfolding stands_from
all_run = run_from 0 all_slots refl

pub places : (schema other : List ℕ) (a b : List SlotValue) → AreSettings a → AreSettings b → place_key schema a ≡ place_key other b
    → (schema ≡ other) × (a ≡ b)
places schema other a b in_a in_b e =
    let parts = texts_apart schema other (values_key a all_slots) (values_key b all_slots) e in (
      parts.0,
      ext_get_or Default a b (in_a ∙ sym in_b)
          (λ i within. agree a b 0 all_slots all_run parts.1 i (omega arith) (omega (arith, in_a, within))),
    )
