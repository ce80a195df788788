-- A difference is read again from the two statements that make it.
use Rattle.std.proofs.Common.{◌≡◌, ℕ, Bool, true, false, List, [], ◌∷◌, ◌++◌, Option, Some, None, codes, option_map, filter, find, reverse, refl, sym, subst, ◌∙◌, ap, inl, inr}
use Rattle.std.specs.List.{list_any}
use Rattle.std.specs.Option.{option_or}
use Rattle.std.proofs.lemmas.Bool.{cond-true, cond-false, cases_Bool, or_parts, or_from}
use Rattle.std.proofs.lemmas.List.{reverse-append}
use Rattle.std.proofs.lemmas.List.Folds.{find-append}
use Rattle.session_vars.specs.Settings.{value_at, has_to_change, changes_of, difference_of}
use Rattle.session_vars.specs.Shapes.{set_shape}
use Rattle.session_vars.specs.Slots.{assigned_slots, all_slots}
use Rattle.session_vars.specs.Texts.{is_names, is_assigned, value_text, names_statement, names_text, session_by, session_text}
use Rattle.session_vars.specs.Tracked.{IsAssignable, IsTrackedValue, AreTracked}
use Rattle.session_vars.specs.declared.change.Change.{Change}
use Rattle.session_vars.specs.declared.change.SlotValue.{SlotValue}
use Rattle.session_vars.specs.declared.change.SlotValue.TheVariants.{Default, Text}
use Rattle.session_vars.specs.declared.shape.SetShape.TheVariants.{Tracked}
use Rattle.session_vars.specs.declared.slot.Slot.{Slot}
use Rattle.session_vars.specs.declared.slot.Slot.TheVariants.{Names, CharacterSetResults, CollationConnection}
use Rattle.session_vars.proofs.Again.{session_again}
use Rattle.session_vars.proofs.Assigned.{AreAssignable}
use Rattle.session_vars.proofs.NamesAgain.{names_again}

abbrev pub change_of : Slot → SlotValue → Change
change_of slot value = record { slot = slot; value = value; adds = false }

-- what SET SESSION makes of tracked settings can be assigned
tracked_assignable : (slot : Slot) (value : SlotValue) → IsTrackedValue slot value → is_assigned (change_of slot value) ≡ true → (is_names slot ≡ false) × IsAssignable slot value
tracked_assignable Names value tracked assigned = absurd (cc)
tracked_assignable CharacterSetResults Default tracked assigned = absurd (cc)
tracked_assignable CharacterSetResults (Text bytes) tracked assigned = (refl, tracked)
tracked_assignable CollationConnection Default tracked assigned = absurd (cc)
tracked_assignable CollationConnection (Text bytes) tracked assigned = (refl, tracked)
tracked_assignable _ value tracked assigned = (refl, tracked)

pub assignable : (from to : List SlotValue) (slots : List Slot) → AreTracked to → AreAssignable (filter is_assigned (changes_of from to slots))
assignable from to [] tracked = tt
assignable from to (slot ∷ slots) tracked =
    let change = change_of slot (value_at to slot) in
    let rest = assignable from to slots tracked in
    elim (cases_Bool (has_to_change from to slot)) [
      | inl e ↦
          let first = ap (filter is_assigned) (cond-true (has_to_change from to slot) _ _ e) in
          elim (cases_Bool (is_assigned change)) [
            | inl f ↦ let is = tracked_assignable slot (value_at to slot) (tracked.1 slot) f in subst AreAssignable (sym (first ∙ cond-true (is_assigned change) _ _ f)) ((is.0, (is.1, refl)), rest)
            | inr f ↦ subst AreAssignable (sym (first ∙ cond-false (is_assigned change) _ _ f)) rest
          ]
      | inr e ↦ subst AreAssignable (sym (ap (filter is_assigned) (cond-false (has_to_change from to slot) _ _ e))) rest
    ]

pub written_again : (changes : List Change) (text : List ℕ) → AreAssignable changes → session_by changes ≡ Some text → set_shape text ≡ Tracked changes
written_again [] text assignable is = absurd (cc)
written_again (change ∷ changes) text assignable is = session_again text change changes (cc) assignable

pub session_read_again : (from to : List SlotValue) (text : List ℕ) → AreTracked to → session_text (difference_of from to) ≡ Some text → set_shape text ≡ Tracked (filter is_assigned (difference_of from to))
session_read_again from to text tracked is = written_again (filter is_assigned (difference_of from to)) text (assignable from to all_slots tracked) is

-- the change of `names` is the first of a difference, where it is one of it
abbrev pub is_names_change : Change → Bool
is_names_change change = is_names change.slot

pub no_names_of : (from to : List SlotValue) (slots : List Slot) → list_any is_names slots ≡ false → list_any is_names_change (changes_of from to slots) ≡ false
no_names_of from to [] none = refl
no_names_of from to (slot ∷ slots) none =
    let parts = or_parts (is_names slot) (list_any is_names slots) none in
    let rest = no_names_of from to slots parts.1 in
    elim (cases_Bool (has_to_change from to slot)) [
      | inl e ↦ ap (list_any is_names_change) (cond-true (has_to_change from to slot) _ _ e) ∙ or_from _ _ parts.0 rest
      | inr e ↦ ap (list_any is_names_change) (cond-false (has_to_change from to slot) _ _ e) ∙ rest
    ]

find_last : (change : Change) (changes : List Change) → find is_names_change (reverse (change ∷ changes)) ≡ option_or (find is_names_change (reverse changes)) (find is_names_change (change ∷ []))
find_last change changes = ap (find is_names_change) (reverse-append (change ∷ []) changes) ∙ find-append is_names_change (reverse changes) (change ∷ [])

pub none_found : (changes : List Change) → list_any is_names_change changes ≡ false → find is_names_change (reverse changes) ≡ None
none_found [] none = refl
none_found (change ∷ changes) none =
    let parts = or_parts (is_names change.slot) (list_any is_names_change changes) none in
    find_last change changes
    ∙ ap (λ (found : Option Change). option_or found (find is_names_change (change ∷ []))) (none_found changes parts.1)
    ∙ cond-false (is_names change.slot) (Some change) None parts.0

names_said : (value : SlotValue) (text : List ℕ) → IsTrackedValue Names value → text ≡ codes "SET NAMES " ++ value_text value → set_shape text ≡ Tracked (change_of Names value ∷ change_of CharacterSetResults Default ∷ change_of CollationConnection Default ∷ [])
names_said Default text tracked is = absurd tracked
names_said (Text bytes) text tracked is = names_again text bytes is tracked

-- SET NAMES is written for a difference where `names` has to change, and only there
abbrev statement_of_last : List Change → Option (List ℕ)
statement_of_last changes = option_map names_statement (find is_names_change (reverse changes))

no_others : (from to : List SlotValue) → find is_names_change (reverse (changes_of from to assigned_slots)) ≡ None
no_others from to = none_found (changes_of from to assigned_slots) (no_names_of from to assigned_slots refl)

pub names_written : (from to : List SlotValue) → has_to_change from to Names ≡ true → names_text (difference_of from to) ≡ Some (names_statement (change_of Names (value_at to Names)))
names_written from to changed =
    let change = change_of Names (value_at to Names) in
    ap statement_of_last (cond-true (has_to_change from to Names) _ _ changed)
    ∙ ap (option_map names_statement) (find_last change (changes_of from to assigned_slots) ∙ ap (λ (last : Option Change). option_or last (find is_names_change (change ∷ []))) (no_others from to))

pub names_unwritten : (from to : List SlotValue) → has_to_change from to Names ≡ false → names_text (difference_of from to) ≡ None
names_unwritten from to same = ap statement_of_last (cond-false (has_to_change from to Names) _ _ same) ∙ ap (option_map names_statement) (no_others from to)

pub names_read_again : (from to : List SlotValue) (text : List ℕ) → AreTracked to → names_text (difference_of from to) ≡ Some text → set_shape text ≡ Tracked (change_of Names (value_at to Names) ∷ change_of CharacterSetResults Default ∷ change_of CollationConnection Default ∷ [])
names_read_again from to text tracked is =
    elim (cases_Bool (has_to_change from to Names)) [
      | inl e ↦ let same = sym (names_written from to e) ∙ is in names_said (value_at to Names) text (tracked.1 Names) (cc)
      | inr e ↦ let apart : None ≡ Some text = sym (names_unwritten from to e) ∙ is in absurd (cc)
    ]
