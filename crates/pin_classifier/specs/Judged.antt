-- The text that is judged in the place of a statement: what stands behind MariaDB's SET STATEMENT .. FOR, which sets a variable for
-- that one statement; or the text with executed comments opened.
use Rattle.std.specs.Prelude.{ℕ, Bool, true, false, ◌&&◌, nat_lt, List, drop, slice_get, codes, Option, Some, None, if◌then◌else◌}
use Rattle.sql_tokens.specs.declared.token.Token.{Token}
use Rattle.sql_tokens.specs.declared.token.TokenKind.{TokenKind}
use Rattle.sql_tokens.specs.declared.token.TokenKind.TheVariants.{Number}
use Rattle.pin_classifier.specs.Opened.{opened_text}
use Rattle.pin_classifier.specs.Shapes.{is_byte, is_there}
use Rattle.pin_classifier.specs.Statement.{next_word, statement}
use Rattle.pin_classifier.specs.WordLists.{is_any}
use Rattle.pin_classifier.specs.declared.word_list.WordList.TheVariants as lists

abbrev pub is_number_kind : TokenKind → Bool
is_number_kind Number = true
is_number_kind _ = false

-- A number, and something stands between it and the token behind it: a server reads `5FOR` as a name.
abbrev pub is_number : (token next : Option Token) → Bool
is_number None next = false
is_number (Some token) None = false
is_number (Some token) (Some next) = is_number_kind token.kind && nat_lt token.end next.start

-- a variable that is a limit, `=`, a number and FOR
abbrev pub limits : (text : List ℕ) → (name equals value end : Option Token) → Bool
limits text name equals value end = is_any lists.Limits (next_word text name) && is_byte text equals 61 && is_number value end && is_there text end (codes "FOR")

-- the tokens begin with SET STATEMENT and these
unfoldable pub sets_limit : (text : List ℕ) → List Token → Bool
sets_limit text tokens =
    is_there text (slice_get tokens 0) (codes "SET")
    && is_there text (slice_get tokens 1) (codes "STATEMENT")
    && limits text (slice_get tokens 2) (slice_get tokens 3) (slice_get tokens 4) (slice_get tokens 5)

-- what stands behind a token
abbrev pub behind : (text : List ℕ) → Option Token → List ℕ
behind text None = text
behind text (Some token) = drop token.end text

-- no SET: a SET that has a front of its own, or sets what the front sets, isn't read
abbrev pub unless_set : (inner : List ℕ) → Option (List ℕ)
unless_set inner = if is_there inner (slice_get (statement inner) 0) (codes "SET") then None else Some inner

-- the statement that runs behind a limit
unfoldable pub limited : (text : List ℕ) → Option (List ℕ)
limited text = if sets_limit text (statement text) then unless_set (behind text (slice_get (statement text) 5)) else None

abbrev pub limited_or : (otherwise : List ℕ) → Option (List ℕ) → List ℕ
limited_or otherwise None = otherwise
limited_or otherwise (Some inner) = inner

-- the statement by which a text is judged: the one behind a limit, where there is one, else the text itself as it is read
abbrev pub judged : (text : List ℕ) → List ℕ
judged text = limited_or (opened_text text) (limited text)
