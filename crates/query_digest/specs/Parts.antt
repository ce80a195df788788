-- Parts of a digest: what stands for a token, and lists of values.
use Rattle.std.specs.Prelude.{ℕ, Bool, true, false, ◌&&◌, List, [], ◌∷◌, ◌++◌, bytes_eq, flat_map, if◌then◌else◌}
use Rattle.sql_tokens.specs.declared.token.TokenKind.{TokenKind}
use Rattle.sql_tokens.specs.declared.token.TokenKind.TheVariants.{Quoted, Number, Symbol}

-- `?`, `?,...`, `,`, or the bytes of a token
pub data Part : Type 0 where
  Value : Part
  Values : Part
  Comma : Part
  Bytes : List ℕ → Part

-- a part, and whether a blank stands before it
pub record Spaced : Type 0 where
  pub apart : Bool
  pub part : Part

-- a symbol `?` counts as a value
abbrev pub symbol_part : List ℕ → Part
symbol_part bytes = if bytes_eq bytes (63 ∷ []) then Value else if bytes_eq bytes (44 ∷ []) then Comma else Bytes bytes

-- a quoted text or a number is a value; every other token is its bytes
abbrev pub part_by : TokenKind → List ℕ → Part
part_by Quoted bytes = Value
part_by Number bytes = Value
part_by Symbol bytes = symbol_part bytes
part_by _ bytes = Bytes bytes

abbrev pub is_values : Part → Bool
is_values Value = true
is_values Values = true
is_values _ = false

abbrev pub is_comma : Part → Bool
is_comma Comma = true
is_comma _ = false

-- a value or a list, put before others: where a comma and another value or list follow, they become one list
abbrev pub joined : Spaced → List Spaced → List Spaced
joined first [] = first ∷ []
joined first (second ∷ []) = first ∷ second ∷ []
joined first (second ∷ third ∷ rest) =
    if is_values first.part && is_comma second.part && is_values third.part then record { apart = first.apart; part = Values } ∷ rest
    else first ∷ second ∷ third ∷ rest

-- each longest run of two or more values with single commas between them as one list
abbrev pub folded : List Spaced → List Spaced
folded [] = []
folded (part ∷ parts) = joined part (folded parts)

abbrev pub part_bytes : Part → List ℕ
part_bytes Value = 63 ∷ []
part_bytes Values = 63 ∷ 44 ∷ 46 ∷ 46 ∷ 46 ∷ []
part_bytes Comma = 44 ∷ []
part_bytes (Bytes bytes) = bytes

abbrev pub spaced_bytes : Spaced → List ℕ
spaced_bytes part = (if part.apart then 32 ∷ [] else []) ++ part_bytes part.part

abbrev pub spelled : List Spaced → List ℕ
spelled parts = flat_map spaced_bytes parts
