-- Values in a statement.
use Rattle.std.specs.Prelude.{ℕ, ◌&&◌, nat_eq, List, [], ◌∷◌, ◌++◌, codes, slice_index_or, Option, Some, None, if◌then◌else◌}
use Rattle.sql_tokens.specs.Words.{bytes_of, inside, same_text}
use Rattle.sql_tokens.specs.declared.token.Token.{Token}
use Rattle.sql_tokens.specs.declared.token.TokenKind.{TokenKind}
use Rattle.sql_tokens.specs.declared.token.TokenKind.TheVariants as kinds
use Rattle.admin_port.specs.declared.value.Value.{Value}
use Rattle.admin_port.specs.declared.value.Value.TheVariants.{Number, Text, Null}

-- what a backslash and a byte denote: \0, \b, \t, \n, \r and \Z a control byte, \% and \_ themselves, all others the byte
abbrev pub escaped : ℕ → List ℕ
escaped c =
    if nat_eq c 48 then 0 ∷ []
    else if nat_eq c 98 then 8 ∷ []
    else if nat_eq c 116 then 9 ∷ []
    else if nat_eq c 110 then 10 ∷ []
    else if nat_eq c 114 then 13 ∷ []
    else if nat_eq c 90 then 26 ∷ []
    else if nat_eq c 37 then 92 ∷ 37 ∷ []
    else if nat_eq c 95 then 92 ∷ 95 ∷ []
    else c ∷ []

-- what stands between quotes, with its escapes and doubled quotes undone
abbrev pub undone : (quote : ℕ) → List ℕ → List ℕ
undone quote [] = []
undone quote (b ∷ []) = b ∷ []
undone quote (b ∷ c ∷ bytes) =
    if nat_eq b 92 then escaped c ++ undone quote bytes
    else if nat_eq b quote && nat_eq c quote then b ∷ undone quote bytes
    else b ∷ undone quote (c ∷ bytes)

abbrev pub quoted_text : List ℕ → List ℕ
quoted_text bytes = undone (slice_index_or bytes 0 0) (inside bytes)

abbrev pub value_by : TokenKind → List ℕ → Option Value
value_by kinds.Number bytes = Some (Number bytes)
value_by kinds.Quoted bytes = Some (Text (quoted_text bytes))
value_by kinds.Word bytes = if same_text bytes (codes "NULL") then Some Null else None
value_by _ bytes = None

-- a number, a quoted text or NULL
abbrev pub value_of : (text : List ℕ) → Token → Option Value
value_of text token = value_by token.kind (bytes_of text token)
