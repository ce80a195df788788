-- The statements that change settings.
use Rattle.std.specs.Prelude.{ℕ, Bool, nat_eq, length, true, false, not, ◌&&◌, ◌||◌, List, [], ◌∷◌, ◌++◌, reverse, codes, Option, Some, None, option_map, filter, find, IsTrue, if◌then◌else◌}
use Rattle.std.specs.List.{list_any, join_by}
use Rattle.session_vars.specs.Slots.{name_of, spelt_name}
use Rattle.session_vars.specs.declared.change.Change.{Change}
use Rattle.session_vars.specs.declared.change.SlotValue.{SlotValue}
use Rattle.session_vars.specs.declared.change.SlotValue.TheVariants.{Default, Text}
use Rattle.session_vars.specs.declared.slot.Slot.{Slot}
use Rattle.session_vars.specs.declared.slot.Slot.TheVariants.{Names, CharacterSetResults, CollationConnection, CharacterSetServer}

abbrev pub is_names : Slot → Bool
is_names Names = true
is_names _ = false

abbrev pub is_default_value : SlotValue → Bool
is_default_value Default = true
is_default_value (Text bytes) = false

-- character_set_results and collation_connection as SET NAMES leaves them
abbrev pub is_left_by_names : Slot → SlotValue → Bool
is_left_by_names CharacterSetResults value = is_default_value value
is_left_by_names CollationConnection value = is_default_value value
is_left_by_names _ value = false

abbrev pub is_results_default : Change → Bool
is_results_default change = is_left_by_names change.slot change.value

abbrev pub value_text : SlotValue → List ℕ
value_text Default = codes "DEFAULT"
value_text (Text bytes) = bytes

-- `SET NAMES` and its value, by the last change of `names`
abbrev pub names_statement : Change → List ℕ
names_statement change = codes "SET NAMES " ++ value_text change.value

abbrev pub names_text : List Change → Option (List ℕ)
names_text changes = option_map names_statement (find (λ change. is_names change.slot) (reverse changes))

-- the changes that SET SESSION makes
abbrev pub is_assigned : Change → Bool
is_assigned change = not (is_names change.slot) && not (is_results_default change)

-- a value of the server's character set that has a `_` is a collation's name, and no character set's
abbrev pub server_name : SlotValue → List ℕ
server_name Default = name_of CharacterSetServer
server_name (Text bytes) = if list_any (nat_eq 95) bytes then codes "collation_server" else name_of CharacterSetServer

-- the name by which a setting is given this value
abbrev pub written_name : Slot → SlotValue → List ℕ
written_name CharacterSetServer value = server_name value
written_name slot value = spelt_name slot

abbrev pub assignment_text : Change → List ℕ
assignment_text change = written_name change.slot change.value ++ codes " = " ++ value_text change.value

abbrev pub session_by : List Change → Option (List ℕ)
session_by [] = None
session_by (change ∷ changes) = Some (codes "SET SESSION " ++ join_by assignment_text (codes ", ") (change ∷ changes))

-- `SET SESSION` and its assignments
abbrev pub session_text : List Change → Option (List ℕ)
session_text changes = session_by (filter is_assigned changes)

abbrev pub has_names : List Change → Bool
has_names changes = list_any (λ change. is_names change.slot) changes

abbrev pub leaves_results : List Change → Bool
leaves_results changes = list_any is_results_default changes

-- SET NAMES has no value that takes back what the session's client said
abbrev pub takes_names_back : Change → Bool
takes_names_back change = is_names change.slot && is_default_value change.value

abbrev pub any_takes_names_back : List Change → Bool
any_takes_names_back changes = list_any takes_names_back changes

-- two statements can make these changes: none makes `names` a default, and one makes it a text where one makes
-- one of these two as SET NAMES leaves it
abbrev pub can_be_set : List Change → Bool
can_be_set changes = not (any_takes_names_back changes) && (has_names changes || not (leaves_results changes))

abbrev pub CanBeSet : List Change → Type 0
CanBeSet changes = IsTrue (can_be_set changes)

-- a text of assignments, with one more where this change is one
abbrev pub with_assignment : List ℕ → Change → List ℕ
with_assignment text change =
    if is_assigned change then text ++ ((if nat_eq (length text) 0 then codes "SET SESSION " else codes ", ") ++ assignment_text change) else text
