-- SET NAMES, behind its SET or a comma.
use Rattle.std.specs.Prelude.{ℕ, Bool, true, false, ◌&&◌, nat_eq, List, [], ◌∷◌, ◌++◌, length, map, codes, Option, Some, None, option_map, option_and_then, if◌then◌else◌}
use Rattle.std.specs.Char.{to_ascii_lowercase}
use Rattle.sql_tokens.specs.Tokens.{tokens_of}
use Rattle.sql_tokens.specs.Words.{bytes_of, says}
use Rattle.sql_tokens.specs.declared.token.Token.{Token}
use Rattle.sql_tokens.specs.declared.token.TokenKind.{TokenKind}
use Rattle.sql_tokens.specs.declared.token.TokenKind.TheVariants.{Word}
use Rattle.session_vars.specs.Statement.{spoken_by}
use Rattle.session_vars.specs.Values.{is_character_set}
use Rattle.session_vars.specs.declared.change.Change.{Change}
use Rattle.session_vars.specs.declared.change.SlotValue.TheVariants.{Default, Text}
use Rattle.session_vars.specs.declared.slot.Slot.TheVariants.{Names, CharacterSetResults, CollationConnection}

abbrev pub is_word_kind : TokenKind → Bool
is_word_kind Word = true
is_word_kind _ = false

-- the bytes are one word, and nothing else
abbrev pub is_one_word_by : (size : ℕ) → List Token → Bool
is_one_word_by size [] = false
is_one_word_by size (token ∷ tokens) = is_word_kind token.kind && nat_eq token.start 0 && nat_eq token.end size

abbrev pub is_one_word : List ℕ → Bool
is_one_word bytes = is_one_word_by (length bytes) (tokens_of bytes)

-- a character set and a collation, of which a word or a quoted text is the name
abbrev pub character_set : (text : List ℕ) → Token → Option (List ℕ)
character_set text token = option_and_then (λ name. if is_character_set name then Some name else None) (spoken_by token.kind (bytes_of text token))

abbrev pub collation : (text : List ℕ) → Token → Option (List ℕ)
collation text token = option_and_then (λ name. if is_one_word name then Some name else None) (spoken_by token.kind (bytes_of text token))

abbrev pub lower_case : List ℕ → List ℕ
lower_case bytes = map to_ascii_lowercase bytes

abbrev pub collated : Option (List ℕ) → Option (List ℕ) → Option (List ℕ)
collated None name = None
collated (Some set) None = None
collated (Some set) (Some name) = Some (lower_case set ++ codes " COLLATE " ++ lower_case name)

-- `NAMES c` or `NAMES c COLLATE k`: what the setting `names` becomes
unfoldable pub names_value : (text : List ℕ) → List Token → Option (List ℕ)
names_value text (names ∷ set ∷ []) = if says text names (codes "NAMES") then option_map lower_case (character_set text set) else None
names_value text (names ∷ set ∷ collate ∷ name ∷ []) =
    if says text names (codes "NAMES") && says text collate (codes "COLLATE") then collated (character_set text set) (collation text name) else None
names_value text _ = None

-- SET NAMES sets character_set_results and collation_connection too
abbrev pub names_changes : Option (List ℕ) → Option (List Change)
names_changes None = None
names_changes (Some value) = Some (
    record { slot = Names; value = Text value; adds = false }
    ∷ record { slot = CharacterSetResults; value = Default; adds = false }
    ∷ record { slot = CollationConnection; value = Default; adds = false }
    ∷ [])
