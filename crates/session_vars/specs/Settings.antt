-- The settings of a session: one value for each slot, in their order.
use Rattle.std.specs.Prelude.{◌≡◌, ◌≤◌, ℕ, ◌-◌, Bool, true, false, not, ◌&&◌, ◌||◌, nat_eq, bytes_eq, List, [], ◌∷◌, ◌++◌, length, slice_index_or, slice_set, replicate, codes, if◌then◌else◌}
use Rattle.session_vars.specs.Collations.{is_served_collation, names_of}
use Rattle.session_vars.specs.Modes.{added_to}
use Rattle.session_vars.specs.Slots.{place_of, all_slots}
use Rattle.session_vars.specs.declared.change.Change.{Change}
use Rattle.session_vars.specs.declared.change.SlotValue.{SlotValue}
use Rattle.session_vars.specs.declared.change.SlotValue.TheVariants.{Default, Text}
use Rattle.session_vars.specs.declared.slot.Slot.{Slot}
use Rattle.session_vars.specs.declared.slot.Slot.TheVariants.{Names, CharacterSetResults, CollationConnection}

-- sixty-seven values
abbrev pub AreSettings : List SlotValue → Type 0
AreSettings values = length values ≡ 67

-- all of them, where the last ones may be left out that are the defaults
abbrev pub padded : List SlotValue → List SlotValue
padded values = values ++ replicate (67 - length values) Default

-- so they are kept, with what those are that are left out
pub record AreKept (values : List SlotValue) (otherwise : SlotValue) : Type 0 where
  pub few : length values ≤ 67
  pub rest : otherwise ≡ Default

-- the value of one of them
abbrev pub value_at : List SlotValue → Slot → SlotValue
value_at values slot = slice_index_or values (place_of slot) Default

-- what a change makes of a value
abbrev pub value_after : SlotValue → Change → SlotValue
value_after old change = if change.adds then added_to old change.value else change.value

-- what a change leaves
abbrev pub changed : List SlotValue → Change → List SlotValue
changed values change = slice_set values (place_of change.slot) (value_after (value_at values change.slot) change)

-- what changes leave, one after the other
abbrev pub applied : List SlotValue → List Change → List SlotValue
applied values [] = values
applied values (change ∷ changes) = applied (changed values change) changes

-- the settings of a session that set nothing
abbrev pub defaults : List SlotValue
defaults = replicate 67 Default

-- what the collation that a client names as it logs in gives the setting `names`; one that isn't served, what the router's own
-- links begin with
unfoldable pub collation_names : ℕ → List ℕ
collation_names number = if is_served_collation number then names_of number else codes "utf8mb4 COLLATE utf8mb4_general_ci"

-- the settings of a client that logged in with this collation
abbrev pub collation_settings : ℕ → List SlotValue
collation_settings number = changed defaults (record { slot = Names; value = Text (collation_names number); adds = false })

abbrev pub same_value : SlotValue → SlotValue → Bool
same_value Default Default = true
same_value Default (Text b) = false
same_value (Text a) Default = false
same_value (Text a) (Text b) = bytes_eq a b

abbrev pub is_text : SlotValue → Bool
is_text Default = false
is_text (Text bytes) = true

abbrev pub differs : (from to : List SlotValue) → Slot → Bool
differs from to slot = not (same_value (value_at from slot) (value_at to slot))

-- it has to become as SET NAMES leaves it
abbrev pub is_taken_back : (from to : List SlotValue) → Slot → Bool
is_taken_back from to slot = is_text (value_at from slot) && not (is_text (value_at to slot))

-- SET NAMES is needed also where one of those that it sets too has to
unfoldable pub names_differ : (from to : List SlotValue) → Bool
names_differ from to = differs from to Names || (is_taken_back from to CharacterSetResults || is_taken_back from to CollationConnection)

-- and it takes these with it
unfoldable pub results_differ : (from to : List SlotValue) → Slot → Bool
results_differ from to slot = differs from to slot || (names_differ from to && is_text (value_at to slot))

abbrev pub has_to_change : (from to : List SlotValue) → Slot → Bool
has_to_change from to Names = names_differ from to
has_to_change from to CharacterSetResults = results_differ from to CharacterSetResults
has_to_change from to CollationConnection = results_differ from to CollationConnection
has_to_change from to slot = differs from to slot

-- the changes of those of these settings that have to change
abbrev pub changes_of : (from to : List SlotValue) → List Slot → List Change
changes_of from to [] = []
changes_of from to (slot ∷ slots) =
    if has_to_change from to slot then record { slot = slot; value = value_at to slot; adds = false } ∷ changes_of from to slots
    else changes_of from to slots

-- the changes that lead from settings to others
abbrev pub difference_of : (from to : List SlotValue) → List Change
difference_of from to = changes_of from to all_slots
