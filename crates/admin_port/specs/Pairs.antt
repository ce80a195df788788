-- Columns and their values in a statement.
use Rattle.std.specs.Prelude.{ℕ, List, [], ◌∷◌, ◌++◌, codes, find, reverse, Option, Some, None, option_map, if◌then◌else◌}
use Rattle.mx_base.specs.Steps.{◌>>=◌}
use Rattle.sql_tokens.specs.Words.{bytes_of, same_text}
use Rattle.sql_tokens.specs.declared.token.Token.{Token}
use Rattle.sql_tokens.specs.declared.token.TokenKind.{TokenKind}
use Rattle.sql_tokens.specs.declared.token.TokenKind.TheVariants.{Word}
use Rattle.admin_port.specs.Values.{value_of}
use Rattle.admin_port.specs.Words.{reads}
use Rattle.admin_port.specs.declared.pair.Pair.{Pair}
use Rattle.admin_port.specs.declared.value.Value.{Value}

abbrev pub column_by : TokenKind → List ℕ → Option (List ℕ)
column_by Word bytes = Some bytes
column_by _ bytes = None

-- the column that a token names: a word, and no name in backticks
abbrev pub column_of : (text : List ℕ) → Token → Option (List ℕ)
column_of text token = column_by token.kind (bytes_of text token)

abbrev pub pair_of : (text : List ℕ) → (column value : Token) → Option Pair
pair_of text column value = do
  name ← column_of text column
  v ← value_of text value
  Some (record { column = name; value = v })

-- <column> = <value>
abbrev pub assigned : (text : List ℕ) → (column equals value : Token) → Option Pair
assigned text column equals value = if reads text equals (codes "=") then pair_of text column value else None

-- what is said behind a word, where it is this one
abbrev pub behind_word : {X : Type 0} → (text word : List ℕ) → Token → Option X → Option X
behind_word text word token said = if reads text token word then said else None

-- these, and those of `<column> = <value>`, with this word between two of them
abbrev pub pairs_from : (text between : List ℕ) → (before : List Pair) → List Token → Option (List Pair)
pairs_from text between before (column ∷ equals ∷ value ∷ []) = assigned text column equals value >>= (λ pair. Some (before ++ pair ∷ []))
pairs_from text between before (column ∷ equals ∷ value ∷ next ∷ tokens) =
    assigned text column equals value >>= (λ pair. behind_word text between next (pairs_from text between (before ++ pair ∷ []) tokens))
pairs_from text between before _ = None

-- these, and as many columns as values, with a comma between two of each
abbrev pub zipped_from : (text : List ℕ) → (before : List Pair) → (columns values : List Token) → Option (List Pair)
zipped_from text before (column ∷ []) (value ∷ []) = pair_of text column value >>= (λ pair. Some (before ++ pair ∷ []))
zipped_from text before (column ∷ comma ∷ columns) (value ∷ next ∷ values) =
    pair_of text column value >>= (λ pair. behind_word text (codes ",") comma (behind_word text (codes ",") next (zipped_from text (before ++ pair ∷ []) columns values)))
zipped_from text before _ _ = None

-- these, and the names of columns, with a comma between two of them
abbrev pub names_from : (text : List ℕ) → (before : List (List ℕ)) → List Token → Option (List (List ℕ))
names_from text before [] = None
names_from text before (name ∷ []) = column_of text name >>= (λ n. Some (before ++ n ∷ []))
names_from text before (name ∷ comma ∷ tokens) =
    column_of text name >>= (λ n. behind_word text (codes ",") comma (names_from text (before ++ n ∷ []) tokens))

-- the value that is given for a column; of a column that is named twice the last one holds
abbrev pub given : List Pair → (column : List ℕ) → Option Value
given pairs column = option_map (λ pair. pair.value) (find (λ pair. same_text pair.column column) (reverse pairs))
