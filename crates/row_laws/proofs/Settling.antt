-- Settings that are equal need no change, and others do.
use Rattle.std.specs.Prelude.{◌≡◌, ℕ, Bool, true, false, not, ◌&&◌, bytes_eq, if◌then◌else◌, List, [], ◌∷◌, Option, Some, None}
use Rattle.std.proofs.Common.{refl, sym, ap, ◌∙◌, subst}
use Rattle.std.proofs.lemmas.Bool.{and_from, cond-false, or_from}
use Rattle.std.specs.Cmp.Lexicographic.{bytes_decides}
use Rattle.session_vars.proofs.Leading.{difference_leads}
use Rattle.session_vars.specs.Settings.{AreSettings, applied, changes_of, difference_of, differs, has_to_change, is_text, names_differ, results_differ, same_value, value_at}
use Rattle.session_vars.specs.Slots.{all_slots}
use Rattle.session_vars.specs.Texts.{names_text, session_text}
use Rattle.session_vars.specs.declared.change.Change.{Change}
use Rattle.session_vars.specs.declared.change.SlotValue.{SlotValue}
use Rattle.session_vars.specs.declared.change.SlotValue.TheVariants.{Default, Text}
use Rattle.session_vars.specs.declared.slot.Slot.{Slot}
use Rattle.session_vars.specs.declared.slot.Slot.TheVariants.{Names, CharacterSetResults, CollationConnection}
use Rattle.session_state.specs.declared.place.Place.{Place}
use Rattle.session_state.specs.declared.place.Told.{Told}
use Rattle.private_model.specs.Commands.{Command, InitDb, Query}
use Rattle.tale_world.proofs.Testing.{same_settings}
use Rattle.tale_world.specs.Policy.{Texts, place_step}
use Rattle.tale_world.specs.Tests as tests
use Rattle.tale_world.specs.Tests.{are_settings, is_value}
use Rattle.link_state.specs.Places.{first_text, is_schema, place_wish, settings_wish, text_of}
use Rattle.link_state.specs.declared.wish.Wish.{Wish}
use Rattle.link_state.specs.declared.wish.Wish.TheVariants.{Schema, Settings}
use Rattle.row_laws.specs.Wishes.{AreTexts}

-- Equal settings.

bytes_themselves : (xs : List ℕ) → bytes_eq xs xs ≡ true
bytes_themselves xs = (bytes_decides xs xs).1 refl

value_itself : (v : SlotValue) → is_value v v ≡ true
value_itself Default = refl
value_itself (Text text) = bytes_themselves text

settings_themselves : (xs : List SlotValue) → are_settings xs xs ≡ true
settings_themselves [] = refl
settings_themselves (x ∷ xs) = and_from (is_value x x) (are_settings xs xs) (value_itself x) (settings_themselves xs)

same_itself : (v : SlotValue) → same_value v v ≡ true
same_itself Default = refl
same_itself (Text text) = bytes_themselves text

differs_not : (s : List SlotValue) (slot : Slot) → differs s s slot ≡ false
differs_not s slot = ap not (same_itself (value_at s slot))

never_both : (b : Bool) → (b && not b) ≡ false
never_both true = refl
never_both false = refl

names_stay : (s : List SlotValue) → names_differ s s ≡ false
unfolding names_differ
names_stay s =
    or_from _ _ (differs_not s Names) (or_from _ _ (never_both (is_text (value_at s CharacterSetResults))) (never_both (is_text (value_at s CollationConnection))))

results_stay : (s : List SlotValue) (slot : Slot) → results_differ s s slot ≡ false
unfolding results_differ
results_stay s slot = or_from _ _ (differs_not s slot) (ap (λ (b : Bool). b && is_text (value_at s slot)) (names_stay s))

stays : (s : List SlotValue) (slot : Slot) → has_to_change s s slot ≡ false
stays s Names = names_stay s
stays s CharacterSetResults = results_stay s CharacterSetResults
stays s CollationConnection = results_stay s CollationConnection
stays s slot = differs_not s slot

nothing_changes : (s : List SlotValue) (slots : List Slot) → changes_of s s slots ≡ []
nothing_changes s [] = refl
nothing_changes s (slot ∷ slots) = cond-false (has_to_change s s slot) _ _ (stays s slot) ∙ nothing_changes s slots

pub no_difference : (from to : List SlotValue) → are_settings from to ≡ true → difference_of from to ≡ []
no_difference from to same = ap (λ (s : List SlotValue). difference_of from s) (sym (same_settings from to same)) ∙ nothing_changes from all_slots

pub same_without : (from to : List SlotValue) → AreSettings from → AreSettings to → difference_of from to ≡ [] → are_settings from to ≡ true
same_without from to from_so to_so none =
    let same : from ≡ to = ap (applied from) (sym none) ∙ difference_leads from to from_so to_so in
    ap (are_settings from) (sym same) ∙ settings_themselves from

-- The step to a place.

abbrev pub IsPlaceStep : Option Wish → Option Command → Type 0
IsPlaceStep None None = Unit {0}
IsPlaceStep (Some (Schema schema)) (Some (InitDb wanted)) = schema ≡ wanted
IsPlaceStep (Some (Settings text)) (Some (Query wanted)) = text ≡ wanted
IsPlaceStep _ _ = ⊥

schema_tests : (told : Option (List ℕ)) (schema : List ℕ) → is_schema told schema ≡ tests.is_schema told schema
schema_tests (Some told) schema = refl
schema_tests None schema = refl

module _ (texts : Texts) (are : AreTexts texts) (from to : List SlotValue) (from_so : AreSettings from) (to_so : AreSettings to) where
  abbrev step_if : Bool → Option Command
  step_if same = if not same then Some (Query (texts.leads from to)) else None

  settings_step : (changes : List Change) → difference_of from to ≡ changes → IsPlaceStep (settings_wish (text_of changes)) (step_if (are_settings from to))
  settings_step [] none = subst (λ (same : Bool). IsPlaceStep None (step_if same)) (sym (same_without from to from_so to_so none)) tt
  settings_step (change ∷ changes) some = by (are_settings from to) refl where
    by : (same : Bool) → are_settings from to ≡ same → IsPlaceStep (settings_wish (text_of (change ∷ changes))) (step_if same)
    by true same = absurd (let none : difference_of from to ≡ [] = no_difference from to same in cc)
    by false apart = sym (are.leads from to ∙ ap (λ (all : List Change). first_text (names_text all) (session_text all)) some)

pub place_steps : (texts : Texts) (told : Told) (place : Place) → AreTexts texts → AreSettings told.settings → AreSettings place.settings
    → IsPlaceStep (place_wish told place) (place_step texts told place)
place_steps texts told place are told_so place_so = by (is_schema told.schema place.schema) refl where
  by : (there : Bool) → is_schema told.schema place.schema ≡ there
      → IsPlaceStep (if not there then Some (Schema place.schema) else settings_wish (text_of (difference_of told.settings place.settings))) (place_step texts told place)
  by true there =
      subst (λ (same : Bool). IsPlaceStep (settings_wish (text_of (difference_of told.settings place.settings)))
      (if not same then Some (InitDb place.schema) else step_if texts are told.settings place.settings told_so place_so (are_settings told.settings place.settings)))
      (sym there ∙ schema_tests told.schema place.schema)
      (settings_step texts are told.settings place.settings told_so place_so (difference_of told.settings place.settings) refl)
  by false elsewhere =
      subst (λ (same : Bool). IsPlaceStep (Some (Schema place.schema))
      (if not same then Some (InitDb place.schema) else step_if texts are told.settings place.settings told_so place_so (are_settings told.settings place.settings)))
      (sym elsewhere ∙ schema_tests told.schema place.schema) refl
