-- Assignments of a SET statement, behind its SET.
use Rattle.std.specs.Prelude.{ℕ, Bool, true, false, ◌&&◌, nat_eq, List, [], ◌∷◌, ◌++◌, take, drop, codes, Option, Some, None, option_map, option_and_then, if◌then◌else◌}
use Rattle.std.specs.Option.{option_or}
use Rattle.sql_tokens.specs.Words.{bytes_of, inside, word_of, same_text, is_symbol}
use Rattle.sql_tokens.specs.declared.token.Token.{Token}
use Rattle.sql_tokens.specs.declared.token.TokenKind.{TokenKind}
use Rattle.sql_tokens.specs.declared.token.TokenKind.TheVariants.{Word, Name, SysVar, Executed}
use Rattle.session_vars.specs.Modes.{joined}
use Rattle.session_vars.specs.Names.{names_value, names_changes}
use Rattle.session_vars.specs.Scopes.{parts_of}
use Rattle.session_vars.specs.Slots.{slot_named, slot_of_comments, unless_transaction}
use Rattle.session_vars.specs.Statement.{is_session_word}
use Rattle.session_vars.specs.Values.{value_of, negative_value}
use Rattle.session_vars.specs.declared.change.Change.{Change}
use Rattle.session_vars.specs.declared.change.SlotValue.{SlotValue}
use Rattle.session_vars.specs.declared.slot.Slot.{Slot}

-- the setting of `@@session.name`, `@@local.name` or `@@name`
unfoldable pub slot_of_variable : List ℕ → Option Slot
slot_of_variable variable =
    if same_text (take 10 variable) (codes "@@session.") then slot_named (drop 10 variable)
    else if same_text (take 8 variable) (codes "@@local.") then slot_named (drop 8 variable)
    else option_and_then unless_transaction (slot_named (drop 2 variable))

-- the setting of a bare name
abbrev pub slot_of_name : (text : List ℕ) → Token → Option Slot
slot_of_name text token = option_and_then slot_named (word_of text token)

-- the setting of a name or a variable
abbrev pub slot_by : TokenKind → List ℕ → Option Slot
slot_by SysVar bytes = slot_of_variable bytes
slot_by Word bytes = slot_named bytes
slot_by Name bytes = slot_named (inside bytes)
slot_by _ bytes = None

abbrev pub change_to : Slot → Option SlotValue → Option Change
change_to slot None = None
change_to slot (Some value) = Some (record { slot = slot; value = value; adds = false })

-- the value, to the end
unfoldable pub written : (text : List ℕ) → Slot → List Token → Option Change
written text slot [] = None
written text slot (value ∷ []) = change_to slot (value_of slot value.kind (bytes_of text value))
written text slot (minus ∷ value ∷ []) =
    if is_symbol text minus 45 then change_to slot (negative_value slot value.kind (bytes_of text value)) else None
written text slot tokens = joined text slot tokens

-- the `=` of a `:=`, between whose bytes nothing stands
unfoldable pub behind_colon : (text : List ℕ) → Slot → (colon : Token) → List Token → Option Change
behind_colon text slot colon [] = None
behind_colon text slot colon (equals ∷ tokens) =
    if is_symbol text equals 61 && nat_eq colon.end equals.start then written text slot tokens else None

-- `=` or `:=`, and the value
unfoldable pub assigned : (text : List ℕ) → Option Slot → List Token → Option Change
assigned text None tokens = None
assigned text (Some slot) [] = None
assigned text (Some slot) (equals ∷ tokens) =
    if is_symbol text equals 61 then written text slot tokens
    else if is_symbol text equals 58 then behind_colon text slot equals tokens
    else None

abbrev pub is_executed : TokenKind → Bool
is_executed Executed = true
is_executed _ = false

-- what stands behind a name of this setting, or behind the first of two comments that name one
unfoldable pub named_change : (text : List ℕ) → Option Slot → (name : Token) → List Token → Option Change
named_change text slot name [] = None
named_change text slot name (next ∷ tokens) =
    if is_executed name.kind then assigned text (slot_of_comments (bytes_of text name) (bytes_of text next)) tokens
    else assigned text slot (next ∷ tokens)

-- one assignment: SESSION or LOCAL and a name, or a name or variable alone, or two comments in its place; and what is assigned
unfoldable pub assignment : (text : List ℕ) → List Token → Option Change
assignment text (scope ∷ name ∷ tokens) =
    if is_session_word text scope then named_change text (slot_of_name text name) name tokens
    else named_change text (slot_by scope.kind (bytes_of text scope)) scope (name ∷ tokens)
assignment text _ = None

-- one part of a SET statement, which may be that of SET NAMES
abbrev pub part_changes : (text : List ℕ) → List Token → Option (List Change)
part_changes text tokens = option_or (names_changes (names_value text tokens)) (option_map (λ change. change ∷ []) (assignment text tokens))

abbrev pub with_changes : Option (List Change) → Option (List Change) → Option (List Change)
with_changes None rest = None
with_changes (Some changes) None = None
with_changes (Some changes) (Some rest) = Some (changes ++ rest)

-- each of these is such a part
abbrev pub all_assigned : (text : List ℕ) → List (List Token) → Option (List Change)
all_assigned text [] = Some []
all_assigned text (part ∷ parts) = with_changes (part_changes text part) (all_assigned text parts)

-- such parts with commas between them, outside brackets
unfoldable pub assignments : (text : List ℕ) → List Token → Option (List Change)
assignments text tokens = all_assigned text (parts_of text 0 tokens)

-- and those behind a comma, where there is one
abbrev pub assigned_behind : (text : List ℕ) → Option (List Token) → Option (List Change)
assigned_behind text None = Some []
assigned_behind text (Some tokens) = assignments text tokens
