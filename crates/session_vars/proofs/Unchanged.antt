-- Settings differ nowhere from themselves.
use Rattle.std.proofs.Common.{◌≡◌, Bool, true, false, not, ◌&&◌, ◌||◌, List, [], ◌∷◌, ℕ, refl, sym, ap, ◌∙◌}
use Rattle.std.proofs.lemmas.Bool.{cond-false}
use Rattle.std.specs.Cmp.Lexicographic.{bytes_decides}
use Rattle.session_vars.specs.Settings.{value_at, same_value, is_text, differs, is_taken_back, names_differ, results_differ, has_to_change, changes_of, difference_of}
use Rattle.session_vars.specs.Slots.{all_slots}
use Rattle.session_vars.specs.declared.change.SlotValue.{SlotValue}
use Rattle.session_vars.specs.declared.change.SlotValue.TheVariants.{Default, Text}
use Rattle.session_vars.specs.declared.slot.Slot.{Slot}
use Rattle.session_vars.specs.declared.slot.Slot.TheVariants.{Names, CharacterSetResults, CollationConnection}

same_itself : (a : SlotValue) → same_value a a ≡ true
same_itself Default = refl
same_itself (Text a) = (bytes_decides a a).1 refl

differs_nowhere : (values : List SlotValue) (slot : Slot) → differs values values slot ≡ false
differs_nowhere values slot = ap not (same_itself (value_at values slot))

never_both : (b : Bool) → (b && not b) ≡ false
never_both true = refl
never_both false = refl

taken_nowhere : (values : List SlotValue) (slot : Slot) → is_taken_back values values slot ≡ false
taken_nowhere values slot = never_both (is_text (value_at values slot))

names_stay : (values : List SlotValue) → names_differ values values ≡ false
unfolding names_differ
names_stay values = search (differs_nowhere values Names, taken_nowhere values CharacterSetResults, taken_nowhere values CollationConnection)

nothing_has_to : (values : List SlotValue) (slot : Slot) → has_to_change values values slot ≡ false
unfolding results_differ
nothing_has_to values Names = names_stay values
nothing_has_to values CharacterSetResults = search (differs_nowhere values CharacterSetResults, names_stay values)
nothing_has_to values CollationConnection = search (differs_nowhere values CollationConnection, names_stay values)
nothing_has_to values slot = differs_nowhere values slot

none_of : (values : List SlotValue) (slots : List Slot) → changes_of values values slots ≡ []
none_of values [] = refl
none_of values (slot ∷ slots) = cond-false (has_to_change values values slot) _ _ (nothing_has_to values slot) ∙ none_of values slots

pub differ_nowhere : (from to : List SlotValue) → from ≡ to → difference_of from to ≡ []
differ_nowhere from to same = ap (λ (wanted : List SlotValue). difference_of from wanted) (sym same) ∙ none_of from all_slots
