-- The tokens of a statement that count, and what they say.
use Rattle.std.specs.Prelude.{ℕ, Bool, true, false, not, ◌||◌, List, [], ◌∷◌, filter, codes, Option, Some, None, if◌then◌else◌}
use Rattle.sql_tokens.specs.Tokens.{tokens_of}
use Rattle.sql_tokens.specs.Words.{inside, is_symbol, says}
use Rattle.sql_tokens.specs.declared.token.Token.{Token}
use Rattle.sql_tokens.specs.declared.token.TokenKind.{TokenKind}
use Rattle.sql_tokens.specs.declared.token.TokenKind.TheVariants.{Word, Quoted, Name, Comment}

abbrev pub is_comment : TokenKind → Bool
is_comment Comment = true
is_comment _ = false

-- what a word, a name in backticks or a quoted text stands for
abbrev pub spoken_by : TokenKind → List ℕ → Option (List ℕ)
spoken_by Word bytes = Some bytes
spoken_by Name bytes = Some (inside bytes)
spoken_by Quoted bytes = Some (inside bytes)
spoken_by _ bytes = None

-- SESSION or LOCAL, which are one
abbrev pub is_session_word : (text : List ℕ) → Token → Bool
is_session_word text token = says text token (codes "SESSION") || says text token (codes "LOCAL")

abbrev pub is_comma : (text : List ℕ) → Token → Bool
is_comma text token = is_symbol text token 44

-- whether the first of these tokens is this word
abbrev pub says_first : (text : List ℕ) → List Token → (word : List ℕ) → Bool
says_first text [] word = false
says_first text (token ∷ tokens) word = says text token word

-- whether a token that is there is this word
abbrev pub says_there : (text : List ℕ) → Option Token → (word : List ℕ) → Bool
says_there text None word = false
says_there text (Some token) word = says text token word

abbrev pub begins_with_session : (text : List ℕ) → List Token → Bool
begins_with_session text tokens = says_first text tokens (codes "SESSION") || says_first text tokens (codes "LOCAL")

abbrev pub without_comments : List Token → List Token
without_comments tokens = filter (λ token. not (is_comment token.kind)) tokens

-- without one `;` at the end
abbrev pub without_end : (text : List ℕ) → List Token → List Token
without_end text [] = []
without_end text (token ∷ []) = if is_symbol text token 59 then [] else token ∷ []
without_end text (token ∷ next ∷ tokens) = token ∷ without_end text (next ∷ tokens)

-- the tokens of a statement: no comments, and no `;` at the end
abbrev pub statement_of : (text : List ℕ) → List Token
statement_of text = without_end text (without_comments (tokens_of text))
