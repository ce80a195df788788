-- A difference leads from settings to others.
use Rattle.std.proofs.Common.{◌≡◌, ◌≤◌, ◌<◌, ℕ, suc, Bool, true, false, not, ◌&&◌, ◌||◌, nat_eq, List, [], ◌∷◌, ◌++◌, length, take, drop, set, get_or, refl, sym, ◌∙◌, ap, inl, inr, arith, append_assoc, add-one}
use Rattle.std.specs.Cmp.Lexicographic.{bytes_decides}
use Rattle.std.proofs.lemmas.Bool.{cond-true, cond-false, cases_Bool, and_parts, eqb-true, or_parts, not-false}
use Rattle.std.proofs.lemmas.List.{append-nil, take_all, drop_all, drop_more, take_more, set-append_right, length-take-le}
use Rattle.session_vars.specs.Settings.{AreSettings, value_at, applied, same_value, is_text, differs, is_taken_back, names_differ, results_differ, has_to_change, changes_of, difference_of}
use Rattle.session_vars.specs.Slots.{place_of, all_slots}
use Rattle.session_vars.specs.declared.change.SlotValue.{SlotValue}
use Rattle.session_vars.specs.declared.change.SlotValue.TheVariants.{Default, Text}
use Rattle.session_vars.specs.declared.slot.Slot.{Slot}
use Rattle.session_vars.specs.declared.slot.Slot.TheVariants.{Names, CharacterSetResults, CollationConnection}

-- values that are the same are equal
pub same_value_is : (a b : SlotValue) → same_value a b ≡ true → a ≡ b
same_value_is Default Default h = refl
same_value_is Default (Text b) h = absurd (cc)
same_value_is (Text a) Default h = absurd (cc)
same_value_is (Text a) (Text b) h = ap (λ (bytes : List ℕ). Text bytes) ((bytes_decides a b).0 h)

-- what hasn't to change is the same
pub unchanged_is : (from to : List SlotValue) (slot : Slot) → has_to_change from to slot ≡ false → value_at from slot ≡ value_at to slot
unfolding names_differ results_differ
unchanged_is from to Names h = same_value_is _ _ (not-false _ (or_parts (differs from to Names) (is_taken_back from to CharacterSetResults || is_taken_back from to CollationConnection) h).0)
unchanged_is from to CharacterSetResults h = same_value_is _ _ (not-false _ (or_parts (differs from to CharacterSetResults) (names_differ from to && is_text (value_at to CharacterSetResults)) h).0)
unchanged_is from to CollationConnection h = same_value_is _ _ (not-false _ (or_parts (differs from to CollationConnection) (names_differ from to && is_text (value_at to CollationConnection)) h).0)
unchanged_is from to slot h = same_value_is _ _ (not-false _ h)

-- these slots stand at the places from one on to the last
pub IsRun : (place : ℕ) → List Slot → Type 0
IsRun place [] = place ≡ 67
IsRun place (slot ∷ slots) = (place_of slot ≡ place) × IsRun (suc place) slots

run_within : (place : ℕ) (slots : List Slot) → IsRun place slots → place ≤ 67
unfolding IsRun
run_within place [] run = omega (arith, run)
run_within place (slot ∷ slots) run = omega (arith, run_within (suc place) slots run.1)

-- settings that are the wanted ones up to a place
abbrev pub partly : (from to : List SlotValue) → ℕ → List SlotValue
partly from to place = take place to ++ drop place from

wanted_next : (from to : List SlotValue) (place : ℕ) → place < length to → take place to ++ (get_or to place Default ∷ drop (suc place) from) ≡ partly from to (suc place)
wanted_next from to place within =
    sym (append_assoc (take place to) (get_or to place Default ∷ []) (drop (suc place) from))
    ∙ ap (λ (front : List SlotValue). front ++ drop (suc place) from) (sym (take_more to place Default within) ∙ ap (λ n. take n to) (add-one place))

set_next : (from to : List SlotValue) (place : ℕ) → place < length from → place < length to → set (partly from to place) place (get_or to place Default) ≡ partly from to (suc place)
set_next from to place in_from in_to =
    let left : drop place from ≡ get_or from place Default ∷ drop (suc place) from = drop_more from place Default in_from ∙ ap (λ n. get_or from place Default ∷ drop n from) (add-one place) in
    set-append_right (take place to) (drop place from) place place (get_or to place Default) (length-take-le place to (omega arith)) (omega arith)
    ∙ ap (λ n. take place to ++ set (drop place from) n (get_or to place Default)) (omega arith)
    ∙ ap (λ (rest : List SlotValue). take place to ++ set rest 0 (get_or to place Default)) left
    ∙ wanted_next from to place in_to

keep_next : (from to : List SlotValue) (place : ℕ) → place < length from → place < length to → get_or from place Default ≡ get_or to place Default → partly from to place ≡ partly from to (suc place)
keep_next from to place in_from in_to same =
    ap (λ (rest : List SlotValue). take place to ++ rest) (drop_more from place Default in_from ∙ ap (λ n. get_or from place Default ∷ drop n from) (add-one place) ∙ ap (λ (value : SlotValue). value ∷ drop (suc place) from) same)
    ∙ wanted_next from to place in_to

pub lead : (from to : List SlotValue) (place : ℕ) (slots : List Slot) → IsRun place slots → length from ≡ 67 → length to ≡ 67 → applied (partly from to place) (changes_of from to slots) ≡ to
unfolding IsRun
lead from to place [] run in_from in_to =
    ap (λ (front : List SlotValue). front ++ drop place from) (take_all place to (omega (arith, run)))
    ∙ ap (λ (rest : List SlotValue). to ++ rest) (drop_all place from (omega (arith, run)))
    ∙ append-nil to
lead from to place (slot ∷ slots) run in_from in_to =
    let within : suc place ≤ 67 = run_within (suc place) slots run.1 in
    let rest = lead from to (suc place) slots run.1 in_from in_to in
    elim (cases_Bool (has_to_change from to slot)) [
      | inl e ↦
          ap (applied (partly from to place)) (cond-true (has_to_change from to slot) _ _ e)
          ∙ ap (λ n. applied (set (partly from to place) n (get_or to n Default)) (changes_of from to slots)) run.0
          ∙ ap (λ (values : List SlotValue). applied values (changes_of from to slots)) (set_next from to place (omega arith) (omega arith))
          ∙ rest
      | inr e ↦
          let same : get_or from place Default ≡ get_or to place Default = ap (λ n. get_or from n Default) (sym run.0) ∙ unchanged_is from to slot e ∙ ap (λ n. get_or to n Default) run.0 in
          ap (applied (partly from to place)) (cond-false (has_to_change from to slot) _ _ e)
          ∙ ap (λ (values : List SlotValue). applied values (changes_of from to slots)) (keep_next from to place (omega arith) (omega arith) same)
          ∙ rest
    ]

-- the same as a test that computes
stands_from : (place : ℕ) → List Slot → Bool
stands_from place [] = nat_eq place 67
stands_from place (slot ∷ slots) = nat_eq (place_of slot) place && stands_from (suc place) slots

run_from : (place : ℕ) (slots : List Slot) → stands_from place slots ≡ true → IsRun place slots
unfolding IsRun stands_from
run_from place [] is = eqb-true place 67 is
run_from place (slot ∷ slots) is =
    let both = and_parts (nat_eq (place_of slot) place) (stands_from (suc place) slots) is in
    (eqb-true (place_of slot) place both.0, run_from (suc place) slots both.1)

all_run : IsRun 0 all_slots
unfolding stands_from
all_run = run_from 0 all_slots refl

-- the slots behind `names` and those that SET NAMES sets too
abbrev pub others : List Slot
others = drop 3 all_slots

pub others_run : IsRun 3 others
unfolding IsRun
others_run = all_run.1.1.1

pub difference_leads : (from to : List SlotValue) → AreSettings from → AreSettings to → applied from (difference_of from to) ≡ to
difference_leads from to in_from in_to = lead from to 0 all_slots all_run in_from in_to
