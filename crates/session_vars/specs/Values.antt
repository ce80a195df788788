-- The values that an assignment may give a setting, and what is kept of them.
use Rattle.std.specs.Prelude.{ℕ, ◌-◌, Bool, true, false, not, ◌&&◌, ◌||◌, nat_eq, nat_le, bytes_eq, List, [], ◌∷◌, ◌++◌, length, take, drop, slice_index_or, codes, Option, Some, None, if◌then◌else◌}
use Rattle.std.specs.List.{list_all, list_any, slice_split, prefix_len, suffix_len}
use Rattle.sql_tokens.specs.Words.{inside, same_text}
use Rattle.sql_tokens.specs.declared.token.TokenKind.{TokenKind}
use Rattle.sql_tokens.specs.declared.token.TokenKind.TheVariants.{Word, Quoted, Number}
use Rattle.session_vars.specs.declared.slot.Slot.{Slot}
use Rattle.session_vars.specs.declared.slot.Slot.TheVariants.{CharacterSetResults, CollationConnection, CharacterSetServer, SqlMode, SqlSelectLimit, SqlAutoIsNull}
use Rattle.session_vars.specs.declared.change.SlotValue.{SlotValue}
use Rattle.session_vars.specs.declared.change.SlotValue.TheVariants.{Default, Text}

-- a value that is kept has at most 1,024 bytes
abbrev pub kept : List ℕ → Option SlotValue
kept bytes = if nat_le (length bytes) 1024 then Some (Text bytes) else None

-- printable ASCII, but no quote and no backslash
abbrev pub is_plain_byte : ℕ → Bool
is_plain_byte b = nat_le 32 b && nat_le b 126 && not (nat_eq b 39 || nat_eq b 34 || nat_eq b 92)

abbrev pub is_default : List ℕ → Bool
is_default word = same_text word (codes "DEFAULT")

-- a number, a word or a quoted text is kept as it is written, a quoted text in `'`
unfoldable pub plain_value : TokenKind → List ℕ → Option SlotValue
plain_value Number bytes = kept bytes
plain_value Word bytes = if is_default bytes then Some Default else kept bytes
plain_value Quoted bytes = if list_all is_plain_byte (inside bytes) then kept (39 ∷ [] ++ inside bytes ++ 39 ∷ []) else None
plain_value _ bytes = None

-- the character sets that SET NAMES and character_set_results may name: each byte of ASCII is that letter, wherever it stands
abbrev pub character_sets : List (List ℕ)
character_sets =
    codes "utf8mb4" ∷ codes "utf8" ∷ codes "latin1" ∷ codes "utf8mb3" ∷ codes "ascii" ∷ codes "binary" ∷ codes "latin2" ∷ codes "latin5" ∷
    codes "latin7" ∷ codes "cp1250" ∷ codes "cp1251" ∷ codes "cp1256" ∷ codes "cp1257" ∷ codes "cp850" ∷ codes "cp852" ∷ codes "cp866" ∷
    codes "koi8r" ∷ codes "koi8u" ∷ codes "greek" ∷ codes "hebrew" ∷ codes "tis620" ∷ codes "armscii8" ∷ codes "geostd8" ∷ codes "dec8" ∷
    codes "hp8" ∷ codes "keybcs2" ∷ codes "macce" ∷ codes "macroman" ∷ codes "ujis" ∷ codes "eucjpms" ∷ codes "euckr" ∷ codes "gb2312" ∷
    []

abbrev pub is_character_set : List ℕ → Bool
is_character_set word = list_any (same_text word) character_sets

-- The modes that change where tokens begin and end, and those that hold more than this. ANSI and ANSI_QUOTES aren't among them: where they
-- end a text in `"` elsewhere, it has an escaped `"`.
abbrev pub reading_modes : List (List ℕ)
reading_modes = codes "NO_BACKSLASH_ESCAPES" ∷ codes "DB2" ∷ codes "MAXDB" ∷ codes "MSSQL" ∷ codes "ORACLE" ∷ codes "POSTGRESQL" ∷ []

abbrev pub is_reading_mode : List ℕ → Bool
is_reading_mode mode = list_any (same_text mode) reading_modes

abbrev pub is_blank : ℕ → Bool
is_blank b = nat_eq b 32

-- without blanks at either end
abbrev pub without_last_blanks : List ℕ → List ℕ
without_last_blanks bytes = take (length bytes - suffix_len is_blank bytes) bytes

abbrev pub without_blanks : List ℕ → List ℕ
without_blanks bytes = without_last_blanks (drop (prefix_len is_blank bytes) bytes)

-- one of the modes of a list, which has commas between them
unfoldable pub has_reading_mode : List ℕ → Bool
has_reading_mode modes = list_any (λ mode. is_reading_mode (without_blanks mode)) (slice_split (λ b. nat_eq b 44) modes)

-- character_set_results takes a character set or NULL, and not DEFAULT
abbrev pub may_be_results : TokenKind → List ℕ → Bool
may_be_results Word bytes = is_character_set bytes || same_text bytes (codes "NULL")
may_be_results Quoted bytes = is_character_set (inside bytes)
may_be_results _ bytes = false

-- a collation's name begins with that of its character set
abbrev pub names_collation : List ℕ → Bool
names_collation name = is_character_set (take (prefix_len (λ b. not (nat_eq b 95)) name) name)

-- collation_connection takes one of these character sets, and not DEFAULT
abbrev pub may_be_collation : TokenKind → List ℕ → Bool
may_be_collation Word bytes = names_collation bytes
may_be_collation Quoted bytes = names_collation (inside bytes)
may_be_collation _ bytes = false

-- sql_mode takes a quoted list of modes, or DEFAULT
abbrev pub may_be_modes : TokenKind → List ℕ → Bool
may_be_modes Word bytes = is_default bytes
may_be_modes Quoted bytes = not (has_reading_mode (inside bytes))
may_be_modes _ bytes = false

-- sql_select_limit takes no number of 0 or below: one that begins with `0` or `.` isn't looked at further. FALSE is 0.
abbrev pub may_be_limit : TokenKind → List ℕ → Bool
may_be_limit Number bytes = nat_le 49 (slice_index_or bytes 0 0)
may_be_limit Word bytes = not (same_text bytes (codes "FALSE"))
may_be_limit _ bytes = true

-- sql_auto_is_null takes what turns it off, or DEFAULT
abbrev pub may_be_off : TokenKind → List ℕ → Bool
may_be_off Number bytes = bytes_eq bytes (codes "0")
may_be_off Word bytes = same_text bytes (codes "OFF") || is_default bytes
may_be_off _ bytes = false

-- the server's character set, or its collation, takes no number: by a number it isn't seen which of them is meant
abbrev pub may_be_server : TokenKind → Bool
may_be_server Number = false
may_be_server _ = true

abbrev pub may_be : Slot → TokenKind → List ℕ → Bool
may_be CharacterSetResults kind bytes = may_be_results kind bytes
may_be CollationConnection kind bytes = may_be_collation kind bytes
may_be CharacterSetServer kind bytes = may_be_server kind
may_be SqlMode kind bytes = may_be_modes kind bytes
may_be SqlSelectLimit kind bytes = may_be_limit kind bytes
may_be SqlAutoIsNull kind bytes = may_be_off kind bytes
may_be _ kind bytes = true

-- the value of one token
unfoldable pub value_of : Slot → TokenKind → List ℕ → Option SlotValue
value_of slot kind bytes = if may_be slot kind bytes then plain_value kind bytes else None

abbrev pub takes_numbers : Slot → Bool
takes_numbers CharacterSetResults = false
takes_numbers CollationConnection = false
takes_numbers CharacterSetServer = false
takes_numbers SqlMode = false
takes_numbers SqlSelectLimit = false
takes_numbers SqlAutoIsNull = false
takes_numbers _ = true

abbrev pub is_number : TokenKind → Bool
is_number Number = true
is_number _ = false

-- the value of a token behind `-`
unfoldable pub negative_value : Slot → TokenKind → List ℕ → Option SlotValue
negative_value slot kind bytes = if takes_numbers slot && is_number kind then kept (45 ∷ [] ++ bytes ++ []) else None
