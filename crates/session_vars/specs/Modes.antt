-- Values of sql_mode by an expression: CONCAT, also nested, of a mode and of lists of modes that are added to it. Modes are a
-- set: their order means nothing, a mode that is named twice is set once, and an empty one is none.
use Rattle.std.specs.Prelude.{ℕ, ◌+◌, ◌-◌, Bool, true, false, not, ◌&&◌, ◌||◌, nat_eq, nat_le, bytes_eq, List, [], ◌∷◌, ◌++◌, length, take, drop, fold, slice_index_or, codes, Option, Some, None, option_map, if◌then◌else◌}
use Rattle.std.specs.List.{list_all, list_any, slice_split}
use Rattle.sql_tokens.specs.Words.{bytes_of, inside, is_symbol, same_text, says}
use Rattle.sql_tokens.specs.declared.token.Token.{Token}
use Rattle.sql_tokens.specs.declared.token.TokenKind.{TokenKind}
use Rattle.sql_tokens.specs.declared.token.TokenKind.TheVariants.{Quoted, SysVar}
use Rattle.session_vars.specs.Values.{is_plain_byte, has_reading_mode}
use Rattle.session_vars.specs.declared.change.Change.{Change}
use Rattle.session_vars.specs.declared.change.SlotValue.{SlotValue}
use Rattle.session_vars.specs.declared.change.SlotValue.TheVariants.{Default, Text}
use Rattle.session_vars.specs.declared.slot.Slot.{Slot}
use Rattle.session_vars.specs.declared.slot.Slot.TheVariants.{SqlMode}

-- a list of modes none of which changes how statements are read
abbrev pub is_mode_list : List ℕ → Bool
is_mode_list list = list_all is_plain_byte list && not (has_reading_mode list)

-- one that begins with a comma, so that it adds whole modes to whatever stands before it
abbrev pub is_added_list : List ℕ → Bool
is_added_list list = nat_eq (slice_index_or list 0 0) 44 && is_mode_list list

abbrev pub without_last : (count : ℕ) → List ℕ → List ℕ
without_last count bytes = take (length bytes - count) bytes

abbrev pub ends_with_comma : List ℕ → Bool
ends_with_comma list = nat_eq (slice_index_or list (length list - 1) 0) 44

-- What is kept of texts in front of the mode, the last of which ends with a comma, so that they add whole modes to whatever
-- stands behind them: the same behind all else.
abbrev pub moved_behind : List ℕ → List ℕ
moved_behind front = if nat_eq (length front) 0 then [] else 44 ∷ without_last 1 front

-- the session's own mode, and the server's, which a session that sets nothing has
abbrev pub own_mode : List ℕ
own_mode = codes "@@sql_mode"

abbrev pub server_mode : List ℕ
server_mode = codes "@@GLOBAL.sql_mode"

abbrev pub is_base_list : List ℕ → Bool
is_base_list list = not (ends_with_comma list) && is_mode_list list

-- what is added to: a mode by its variable, or a quoted list that ends with no comma
unfoldable pub base_of : TokenKind → List ℕ → Option (List ℕ)
base_of SysVar bytes =
    if same_text bytes own_mode || same_text bytes (codes "@@session.sql_mode") then Some own_mode
    else if same_text bytes server_mode then Some server_mode
    else None
base_of Quoted bytes = if is_base_list (inside bytes) then Some (39 ∷ [] ++ inside bytes ++ 39 ∷ []) else None
base_of _ bytes = None

-- what is added, which may be a part of a list, as a comma alone
unfoldable pub list_of : TokenKind → List ℕ → Option (List ℕ)
list_of Quoted bytes = Some (inside bytes)
list_of _ bytes = None

-- one text and then others, where both are there
abbrev pub lists_joined : Option (List ℕ) → Option (List ℕ) → Option (List ℕ)
lists_joined None rest = None
lists_joined (Some list) None = None
lists_joined (Some list) (Some rest) = Some (list ++ rest)

-- texts, each behind a comma, and the brackets that close, where so many are open
unfoldable pub lists_behind : (text : List ℕ) → (depth : ℕ) → List Token → Option (List ℕ)
lists_behind text depth [] = if nat_eq depth 0 then Some [] else None
lists_behind text depth (token ∷ []) = if nat_eq depth 0 then None else if is_symbol text token 41 then lists_behind text (depth - 1) [] else None
lists_behind text depth (token ∷ next ∷ tokens) =
    if nat_eq depth 0 then None
    else if is_symbol text token 41 then lists_behind text (depth - 1) (next ∷ tokens)
    else if is_symbol text token 44 then lists_joined (list_of next.kind (bytes_of text next)) (lists_behind text depth tokens)
    else None

-- how a mode is kept to which lists are added
abbrev pub joined_text : (base lists : List ℕ) → List ℕ
joined_text base lists = codes "CONCAT(" ++ base ++ codes ", '" ++ lists ++ codes "')"

-- it adds to the mode before it where that is the base
abbrev pub joined_change : (base lists : List ℕ) → Change
joined_change base lists = record { slot = SqlMode; value = Text (joined_text base lists); adds = bytes_eq base own_mode }

-- whole modes are added, and to the mode before it at most 1,024 bytes
abbrev pub may_join : (base lists : List ℕ) → Bool
may_join base lists = is_added_list lists && (not (bytes_eq base own_mode) || nat_le (length lists) 1024)

abbrev pub joined_with : Option (List ℕ) → Option (List ℕ) → Option Change
joined_with None lists = None
joined_with (Some base) None = None
joined_with (Some base) (Some lists) = if may_join base lists then Some (joined_change base lists) else None

abbrev pub is_quoted : TokenKind → Bool
is_quoted Quoted = true
is_quoted _ = false

-- a comma alone in quotes, and a comma behind it
abbrev pub is_lone_comma : (text : List ℕ) → List Token → Bool
is_lone_comma text (token ∷ next ∷ tokens) = is_quoted token.kind && bytes_eq (inside (bytes_of text token)) (44 ∷ []) && is_symbol text next 44
is_lone_comma text _ = false

-- a text in front of the mode, within a CONCAT: it ends with a comma, or a lone one stands behind it
abbrev pub is_front : (text : List ℕ) → (depth : ℕ) → (token next : Token) → List Token → Bool
is_front text depth token next tokens =
    nat_le 1 depth && is_symbol text next 44 && is_quoted token.kind && (ends_with_comma (inside (bytes_of text token)) || is_lone_comma text tokens)

-- `CONCAT (`, or `( SELECT`, within which a server takes no comma
abbrev pub is_opening : (text : List ℕ) → (token next : Token) → Bool
is_opening text token next = (says text token (codes "CONCAT") && is_symbol text next 40) || (is_symbol text token 40 && says text next (codes "SELECT"))

-- behind so many of these, and such texts in front
unfoldable pub joined_at : (text : List ℕ) → (depth : ℕ) → (front : List ℕ) → List Token → Option Change
joined_at text depth front [] = None
joined_at text depth front (token ∷ []) = None
joined_at text depth front (token ∷ next ∷ tokens) =
    if is_opening text token next then joined_at text (depth + 1) front tokens
    else if is_front text depth token next tokens then joined_at text depth (front ++ inside (bytes_of text token)) tokens
    else joined_with (base_of token.kind (bytes_of text token)) (option_map (λ lists. lists ++ moved_behind front) (lists_behind text depth (next ∷ tokens)))

abbrev pub takes_modes : Slot → Bool
takes_modes SqlMode = true
takes_modes _ = false

-- an expression of at most sixty tokens
unfoldable pub joined : (text : List ℕ) → Slot → List Token → Option Change
joined text slot tokens = if takes_modes slot && nat_le (length tokens) 60 then joined_at text 0 [] tokens else None

-- a value names a mode, in any case, between its commas and quotes
abbrev pub names_mode : (value mode : List ℕ) → Bool
names_mode value mode = list_any (same_text mode) (slice_split (λ b. nat_eq b 44 || nat_eq b 39) value)

-- a value, and behind a comma a mode that it doesn't name
abbrev pub with_named : (value mode : List ℕ) → List ℕ
with_named value mode = if names_mode value mode then value else value ++ 44 ∷ mode

-- what the modes of a list, one after the other, add to what a value names
abbrev pub new_modes : (value list : List ℕ) → List ℕ
new_modes value list = drop (length value) (fold with_named value (slice_split (λ b. nat_eq b 44) list))

-- a list as a value; one that is too long for that is kept as what it adds to no mode
abbrev pub as_value : (list : List ℕ) → List ℕ
as_value list = if nat_le (length list) 1022 then 39 ∷ [] ++ list ++ 39 ∷ [] else joined_text (39 ∷ 39 ∷ []) (44 ∷ list)

-- a value with more modes in its last list
abbrev pub is_joined_text : List ℕ → Bool
is_joined_text bytes = bytes_eq (take 7 bytes) (codes "CONCAT(")

abbrev pub with_modes : (old new : List ℕ) → List ℕ
with_modes old new = if is_joined_text old then without_last 2 old ++ new ++ codes "')" else as_value (inside old ++ new)

abbrev pub with_more : SlotValue → (new : List ℕ) → List ℕ
with_more Default new = joined_text server_mode new
with_more (Text old) new = with_modes old new

abbrev pub grown : SlotValue → (new : List ℕ) → SlotValue
grown old new = if nat_eq (length new) 0 then old else Text (with_more old new)

abbrev pub named_by : SlotValue → List ℕ
named_by Default = []
named_by (Text bytes) = bytes

-- What an expression over the mode before it makes of that mode: the same with the modes that it doesn't name yet. A session
-- that sets no mode has the server's.
abbrev pub added_to : (old added : SlotValue) → SlotValue
added_to old Default = Default
added_to old (Text added) = grown old (new_modes (named_by old) (without_last 2 (drop 20 added)))
