-- What stands in a statement: its tokens without comments, and among these words, calls of functions and system variables.
use Rattle.std.specs.Prelude.{ℕ, ◌-◌, Bool, true, false, not, ◌||◌, ◌&&◌, nat_eq, nat_lt, List, [], ◌∷◌, length, drop, slice_index_or, codes, Option, Some, None, option_and_then, if◌then◌else◌}
use Rattle.std.specs.List.{list_all, list_any, slice_split}
use Rattle.sql_tokens.specs.Tokens.{tokens_of}
use Rattle.sql_tokens.specs.Words.{bytes_of, word_of, same_text, says, is_symbol}
use Rattle.sql_tokens.specs.declared.token.Token.{Token}
use Rattle.sql_tokens.specs.declared.token.TokenKind.{TokenKind}
use Rattle.sql_tokens.specs.declared.token.TokenKind.TheVariants.{Quoted, Word, UserVar, SysVar, Executed, Unclosed}
use Rattle.session_vars.specs.Statement.{without_comments}

-- the tokens of a text that count: all but its comments
abbrev pub statement : (text : List ℕ) → List Token
statement text = without_comments (tokens_of text)

-- the word of a first token, where a `(` counts as SELECT
abbrev pub opening_word : (text : List ℕ) → Token → Option (List ℕ)
opening_word text token = if is_symbol text token 40 then Some (codes "SELECT") else word_of text token

abbrev pub first_word : (text : List ℕ) → (first : Option Token) → Option (List ℕ)
first_word text first = option_and_then (opening_word text) first

abbrev pub next_word : (text : List ℕ) → (second : Option Token) → Option (List ℕ)
next_word text second = option_and_then (word_of text) second

-- this word stands somewhere
abbrev pub has_word : (text : List ℕ) → List Token → (word : List ℕ) → Bool
has_word text tokens word = list_any (λ token. says text token word) tokens

-- the tokens but the first, each with the one before it
abbrev pub neighbours : List Token → List (Token × Token)
neighbours [] = []
neighbours (a ∷ []) = []
neighbours (a ∷ b ∷ tokens) = (a, b) ∷ neighbours (b ∷ tokens)

-- a call of a function: a word whose next token is `(`
abbrev pub calls : (text : List ℕ) → (name : List ℕ) → Token × Token → Bool
calls text name pair = says text pair.0 name && is_symbol text pair.1 40

abbrev pub has_call : (text : List ℕ) → List Token → (name : List ℕ) → Bool
has_call text tokens name = list_any (calls text name) (neighbours tokens)

abbrev pub is_double_quoted : TokenKind → List ℕ → Bool
is_double_quoted Quoted bytes = nat_eq (slice_index_or bytes 0 0) 34
is_double_quoted _ bytes = false

-- it has a `\` and a `"` behind it
unfoldable pub has_escaped : List ℕ → Bool
has_escaped [] = false
has_escaped (b ∷ bytes) = (nat_eq b 92 && nat_eq (slice_index_or bytes 0 0) 34) || has_escaped bytes

-- a text in `"` that ends elsewhere where `"` quotes names, in which nothing is escaped
abbrev pub is_escaped : TokenKind → List ℕ → Bool
is_escaped kind bytes = is_double_quoted kind bytes && has_escaped bytes

-- a word RELEASE that doesn't follow NO, behind a first word
abbrev pub releases : (text : List ℕ) → Token × Token → Bool
releases text pair = says text pair.1 (codes "RELEASE") && not (says text pair.0 (codes "NO"))

abbrev pub has_release : (text : List ℕ) → List Token → Bool
has_release text tokens = list_any (releases text) (neighbours tokens)

-- the name of a system variable, behind its `@@`
abbrev pub variable_by : TokenKind → List ℕ → Option (List ℕ)
variable_by SysVar bytes = Some (drop 2 bytes)
variable_by _ bytes = None

abbrev pub variable_of : (text : List ℕ) → Token → Option (List ℕ)
variable_of text token = variable_by token.kind (bytes_of text token)

-- one of its parts, which have dots between them
unfoldable pub has_part : (name : List ℕ) → (part : List ℕ) → Bool
has_part name part = list_any (λ one. same_text one part) (slice_split (λ b. nat_eq b 46) name)

abbrev pub is_part : (name : Option (List ℕ)) → (part : List ℕ) → Bool
is_part None part = false
is_part (Some name) part = has_part name part

-- bytes of other alphabets in a name, where a server may take a letter with an accent for the one without
abbrev pub is_wide : List ℕ → Bool
is_wide bytes = not (list_all (λ b. nat_lt b 128) bytes)

abbrev pub is_wide_name : Option (List ℕ) → Bool
is_wide_name None = false
is_wide_name (Some name) = is_wide name

abbrev pub has_wide_variable : (text : List ℕ) → List Token → Bool
has_wide_variable text tokens = list_any (λ token. is_wide_name (variable_of text token)) tokens

-- a system variable with this part stands somewhere
abbrev pub has_variable : (text : List ℕ) → List Token → (part : List ℕ) → Bool
has_variable text tokens part = list_any (λ token. is_part (variable_of text token) part) tokens

-- FROM, and not in backticks
abbrev pub is_plain_word : TokenKind → Bool
is_plain_word Word = true
is_plain_word _ = false

abbrev pub is_from : (text : List ℕ) → Token → Bool
is_from text token = says text token (codes "FROM") && is_plain_word token.kind

abbrev pub has_from : (text : List ℕ) → List Token → Bool
has_from text tokens = list_any (is_from text) tokens

-- A user variable, which lives in a session. No statement that is known begins with one; and right behind a quoted text it is
-- the host of an account.
abbrev pub is_user_variable : TokenKind → Bool
is_user_variable UserVar = true
is_user_variable _ = false

abbrev pub is_quoted : TokenKind → Bool
is_quoted Quoted = true
is_quoted _ = false

abbrev pub is_variable_behind : Token × Token → Bool
is_variable_behind pair = is_user_variable pair.1.kind && not (is_quoted pair.0.kind)

abbrev pub has_user_variable : (text : List ℕ) → List Token → Bool
has_user_variable text tokens = list_any is_variable_behind (neighbours tokens)

-- scopes that are no names of variables
abbrev pub variable_scopes : List (List ℕ)
variable_scopes = codes "global" ∷ codes "session" ∷ codes "local" ∷ codes "persist" ∷ codes "persist_only" ∷ []

-- half of a system variable, whose name goes on behind it: a scope alone, what ends in a dot, and the first `@` of an `@@` before
-- a name in backticks
abbrev pub is_half : TokenKind → List ℕ → Bool
is_half SysVar bytes = list_any (same_text (drop 2 bytes)) variable_scopes || nat_eq (slice_index_or bytes (length bytes - 1) 0) 46
is_half UserVar bytes = nat_eq (length bytes) 1
is_half _ bytes = false

-- what isn't read as a server does: an executed comment, what isn't closed, half of a system variable, a NUL byte, and an escaped `"`
-- within a text in `"`
abbrev pub is_unread_kind : TokenKind → Bool
is_unread_kind Executed = true
is_unread_kind Unclosed = true
is_unread_kind _ = false

abbrev pub is_unread : (text : List ℕ) → Token → Bool
is_unread text token =
    is_unread_kind token.kind || (is_half token.kind (bytes_of text token) || (is_symbol text token 0 || is_escaped token.kind (bytes_of text token)))

abbrev pub has_unread : (text : List ℕ) → List Token → Bool
has_unread text tokens = list_any (is_unread text) tokens
