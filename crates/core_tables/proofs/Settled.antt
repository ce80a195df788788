-- Settings are the same where each slot has the same value.
use Rattle.std.specs.Prelude.{◌≡◌, ℕ, zero, suc, Bool, true, ◌&&◌, length, slice_index_or, List, [], ◌∷◌}
use Rattle.std.specs.List.{list_all}
use Rattle.std.proofs.Common.{refl, sym, ap, ◌∙◌, arith}
use Rattle.session_vars.specs.Settings.{AreSettings, same_value, value_at}
use Rattle.session_vars.specs.Slots.{all_slots}
use Rattle.session_vars.specs.declared.change.SlotValue.{SlotValue}
use Rattle.session_vars.specs.declared.change.SlotValue.TheVariants.{Default}
use Rattle.session_vars.specs.declared.slot.Slot.{Slot}
use Rattle.core_tables.specs.Passing.{are_settings}

-- so many tests from this one on
abbrev up : (count from : ℕ) → (ℕ → Bool) → Bool
up zero from test = true
up (suc count) from test = test from && up count (suc from) test

shifted : (count from : ℕ) (test later : ℕ → Bool) → ((i : ℕ) → test (suc i) ≡ later i) → up count (suc from) test ≡ up count from later
shifted zero from test later same = refl
shifted (suc count) from test later same = λ i. same from i && shifted count (suc from) test later same i

abbrev same_at : List SlotValue → List SlotValue → ℕ → Bool
same_at a b i = same_value (slice_index_or a i Default) (slice_index_or b i Default)

each_same : (count : ℕ) (a b : List SlotValue) → length a ≡ count → length b ≡ count → up count 0 (same_at a b) ≡ are_settings a b
each_same zero [] [] long short = refl
each_same zero [] (y ∷ ys) long short = absurd (omega arith)
each_same zero (x ∷ xs) b long short = absurd (omega arith)
each_same (suc count) [] b long short = absurd (omega arith)
each_same (suc count) (x ∷ xs) [] long short = absurd (omega arith)
each_same (suc count) (x ∷ xs) (y ∷ ys) long short =
    let rest : length xs ≡ count = omega arith in
    let others : length ys ≡ count = omega arith in
    ap (λ (all : Bool). same_value x y && all)
    (shifted count 0 (same_at (x ∷ xs) (y ∷ ys)) (same_at xs ys) (λ i. refl) ∙ each_same count xs ys rest others)

pub all_same : (a b : List SlotValue) → AreSettings a → AreSettings b
    → list_all (λ (slot : Slot). same_value (value_at a slot) (value_at b slot)) all_slots ≡ are_settings a b
all_same a b long short = each_same 67 a b long short
