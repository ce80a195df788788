-- Two statements can make a difference.
use Rattle.std.proofs.Common.{◌≡◌, true, false, not, ◌&&◌, ◌||◌, Bool, List, [], ◌∷◌, cond, drop, refl, ◌∙◌, ap, inl, inr}
use Rattle.std.specs.List.{list_all, list_any}
use Rattle.std.proofs.lemmas.Bool.{cond-true, cond-false, cases_Bool, and_from, and_left, and_parts, or_left, or_right, or_from, or_parts, not_from_false}
use Rattle.session_vars.specs.Settings.{value_at, same_value, is_text, differs, is_taken_back, names_differ, results_differ, has_to_change, changes_of, difference_of}
use Rattle.session_vars.specs.Slots.{all_slots}
use Rattle.session_vars.specs.Texts.{is_names, is_default_value, is_left_by_names, is_results_default, takes_names_back, any_takes_names_back, CanBeSet}
use Rattle.session_vars.specs.declared.change.Change.{Change}
use Rattle.session_vars.specs.declared.change.SlotValue.{SlotValue}
use Rattle.session_vars.specs.declared.change.SlotValue.TheVariants.{Default, Text}
use Rattle.session_vars.specs.declared.slot.Slot.{Slot}
use Rattle.session_vars.specs.declared.slot.Slot.TheVariants.{Names, CharacterSetResults, CollationConnection}

text_is_no_default : (value : SlotValue) → is_text value ≡ true → is_default_value value ≡ false
text_is_no_default Default h = absurd (cc)
text_is_no_default (Text bytes) h = refl

right_change : (to : List SlotValue) (slot : Slot) → is_text (value_at to Names) ≡ true → takes_names_back (record { slot = slot; value = value_at to slot; adds = false }) ≡ false
right_change to Names h = text_is_no_default (value_at to Names) h
right_change to _ h = refl

none_taken_back : (from to : List SlotValue) (slots : List Slot) → is_text (value_at to Names) ≡ true → any_takes_names_back (changes_of from to slots) ≡ false
none_taken_back from to [] h = refl
none_taken_back from to (slot ∷ slots) h =
    elim (cases_Bool (has_to_change from to slot)) [
      | inl e ↦ ap any_takes_names_back (cond-true (has_to_change from to slot) _ _ e) ∙ or_from _ _ (right_change to slot h) (none_taken_back from to slots h)
      | inr e ↦ ap any_takes_names_back (cond-false (has_to_change from to slot) _ _ e) ∙ none_taken_back from to slots h
    ]

-- none of those that SET NAMES sets too is among these
IsWithoutResults : List Slot → Type 0
IsWithoutResults [] = Unit {0}
IsWithoutResults (slot ∷ slots) = ((value : SlotValue) → is_left_by_names slot value ≡ false) × IsWithoutResults slots

none_left : (from to : List SlotValue) (slots : List Slot) → IsWithoutResults slots → list_any is_results_default (changes_of from to slots) ≡ false
unfolding IsWithoutResults
none_left from to [] without = refl
none_left from to (slot ∷ slots) without =
    elim (cases_Bool (has_to_change from to slot)) [
      | inl e ↦ ap (list_any is_results_default) (cond-true (has_to_change from to slot) _ _ e) ∙ or_from _ _ (without.0 (value_at to slot)) (none_left from to slots without.1)
      | inr e ↦ ap (list_any is_results_default) (cond-false (has_to_change from to slot) _ _ e) ∙ none_left from to slots without.1
    ]

-- where `names` hasn't to change, neither of them has to become a default
kept_results : (names_differs : Bool) (from to : SlotValue) → is_text from && not (is_text to) ≡ false → names_differs ≡ false → not (same_value from to) || (names_differs && is_text to) ≡ true → is_default_value to ≡ false
kept_results names_differs Default Default h n change = let right : names_differs && false ≡ false = and_left names_differs false n in absurd (cc)
kept_results names_differs (Text a) Default h n change = absurd (cc)
kept_results names_differs from (Text b) h n change = refl

-- behind `names` and these
abbrev other_slots : List Slot
other_slots = drop 3 all_slots

-- the same as a test that computes
is_results : Slot → Bool
is_results CharacterSetResults = true
is_results CollationConnection = true
is_results _ = false

no_results : (slot : Slot) → not (is_results slot) ≡ true → (value : SlotValue) → is_left_by_names slot value ≡ false
unfolding is_results
no_results CharacterSetResults other value = absurd (cc)
no_results CollationConnection other value = absurd (cc)
no_results _ other value = refl

without_results : (slots : List Slot) → list_all (λ slot. not (is_results slot)) slots ≡ true → IsWithoutResults slots
unfolding IsWithoutResults
without_results [] none = tt
without_results (slot ∷ slots) none =
    let both = and_parts (not (is_results slot)) (list_all (λ slot. not (is_results slot)) slots) none in
    (no_results slot both.0, without_results slots both.1)

others_without : IsWithoutResults other_slots
unfolding is_results
others_without = without_results other_slots refl

-- neither does one of them, in front of others
one_kept : (from to : List SlotValue) (slot : Slot) (changes : List Change) → names_differ from to ≡ false → is_taken_back from to slot ≡ false → ((value : SlotValue) → is_left_by_names slot value ≡ is_default_value value) → list_any is_results_default changes ≡ false → list_any is_results_default (cond (results_differ from to slot) (record { slot = slot; value = value_at to slot; adds = false } ∷ changes) changes) ≡ false
unfolding results_differ
one_kept from to slot changes same kept left others =
    elim (cases_Bool (results_differ from to slot)) [
      | inl e ↦
          ap (list_any is_results_default) (cond-true (results_differ from to slot) _ _ e)
          ∙ or_from _ _ (left (value_at to slot) ∙ kept_results (names_differ from to) (value_at from slot) (value_at to slot) kept same e) others
      | inr e ↦ ap (list_any is_results_default) (cond-false (results_differ from to slot) _ _ e) ∙ others
    ]

none_as_left : (from to : List SlotValue) → names_differ from to ≡ false → list_any is_results_default (difference_of from to) ≡ false
unfolding names_differ
none_as_left from to same =
    let parts = or_parts (differs from to Names) (is_taken_back from to CharacterSetResults || is_taken_back from to CollationConnection) same in
    let both = or_parts (is_taken_back from to CharacterSetResults) (is_taken_back from to CollationConnection) parts.1 in
    let rest = changes_of from to other_slots in
    let behind = one_kept from to CollationConnection rest same both.1 (λ value. refl) (none_left from to other_slots others_without) in
    ap (list_any is_results_default) (cond-false (names_differ from to) _ _ same)
    ∙ one_kept from to CharacterSetResults (changes_of from to (CollationConnection ∷ other_slots)) same both.0 (λ value. refl) behind

names_or_none : (from to : List SlotValue) → list_any (λ change. is_names change.slot) (difference_of from to) || not (list_any is_results_default (difference_of from to)) ≡ true
names_or_none from to =
    elim (cases_Bool (names_differ from to)) [
      | inl e ↦ or_left _ _ (ap (list_any (λ (change : Change). is_names change.slot)) (cond-true (names_differ from to) _ _ e))
      | inr e ↦ or_right _ _ (not_from_false _ (none_as_left from to e))
    ]

pub difference_settable : (from to : List SlotValue) → is_text (value_at to Names) ≡ true → CanBeSet (difference_of from to)
difference_settable from to wanted = and_from _ _ (not_from_false _ (none_taken_back from to all_slots wanted)) (names_or_none from to)
