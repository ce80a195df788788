-- The payloads of a result set of texts (client/server protocol, "Text Resultset").
use Rattle.std.specs.Prelude.{ℕ, List, [], ◌∷◌, ◌++◌, length, map, Option, Some, None, flat_map}
use Rattle.mx_base.specs.Fields.{lenenc}
use Rattle.reply_text.specs.Replies.{eof_payload}

-- a length-encoded text
abbrev pub text_bytes : List ℕ → List ℕ
text_bytes text = lenenc (length text) ++ text

abbrev pub count_payload : (columns : ℕ) → List ℕ
count_payload columns = lenenc columns

-- the definition of a column: its catalog "def", no schema and tables, its name, no original name; 0x0C, the
-- character set 45 (utf8mb4), the length 1,024, the type VAR_STRING, no flags, no decimals, two zero bytes
abbrev pub definition_payload : (name : List ℕ) → List ℕ
definition_payload name = 3 ∷ 100 ∷ 101 ∷ 102 ∷ 0 ∷ 0 ∷ 0 ∷ (text_bytes name ++ (0 ∷ 12 ∷ 45 ∷ 0 ∷ 0 ∷ 4 ∷ 0 ∷ 0 ∷ 253 ∷ 0 ∷ 0 ∷ 0 ∷ 0 ∷ 0 ∷ []))

-- a row: its cells as length-encoded texts, 0xFB for NULL
abbrev pub cell_bytes : Option (List ℕ) → List ℕ
cell_bytes None = 251 ∷ []
cell_bytes (Some text) = text_bytes text

abbrev pub row_payload : List (Option (List ℕ)) → List ℕ
row_payload cells = flat_map cell_bytes cells

-- a table: the column count, a definition for each column, an EOF, the rows, an EOF
abbrev pub table_payloads : (status : ℕ) → (columns rows : List (List ℕ)) → List (List ℕ)
table_payloads status columns rows = (count_payload (length columns) ∷ []) ++ (map definition_payload columns ++ ((eof_payload status ∷ []) ++ (rows ++ eof_payload status ∷ [])))
