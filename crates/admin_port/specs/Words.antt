-- The tokens of a statement, and what they say.
use Rattle.std.specs.Prelude.{◌≡◌, ℕ, ◌+◌, ◌-◌, Bool, true, false, nat_eq, List, [], ◌∷◌, length, take, drop, position, slice_get, Option, Some, None, if◌then◌else◌}
use Rattle.std.specs.Borrow.{Bor}
use Rattle.std.specs.Option.{option_map_or}
use Rattle.mx_base.specs.Steps.{◌>>=◌}
use Rattle.sql_tokens.specs.Tokens.{tokens_of}
use Rattle.sql_tokens.specs.Words.{bytes_of, is_symbol, same_text}
use Rattle.sql_tokens.specs.declared.token.Token.{Token}
use Rattle.sql_tokens.specs.declared.token.TokenKind.{TokenKind}
use Rattle.sql_tokens.specs.declared.token.TokenKind.TheVariants.{Comment}

abbrev pub is_comment : TokenKind → Bool
is_comment Comment = true
is_comment _ = false

abbrev pub uncommented : List Token → List Token
uncommented [] = []
uncommented (token ∷ tokens) = if is_comment token.kind then uncommented tokens else token ∷ uncommented tokens

abbrev pub without_comments : (text : List ℕ) → List Token
without_comments text = uncommented (tokens_of text)

-- a `;` stands last
abbrev pub is_ended : (text : List ℕ) → List Token → Bool
is_ended text tokens = option_map_or (λ token. is_symbol text token 59) (slice_get tokens (length tokens - 1)) false

abbrev pub without_end : (text : List ℕ) → List Token → List Token
without_end text tokens = if is_ended text tokens then take (length tokens - 1) tokens else tokens

-- the tokens that count: none of the comments, and not the `;` that ends the statement
abbrev pub statement_tokens : (text : List ℕ) → List Token
statement_tokens text = without_end text (without_comments text)

-- the token is spelled so, in any ASCII case
abbrev pub reads : (text : List ℕ) → Token → (word : List ℕ) → Bool
reads text token word = same_text (bytes_of text token) word

-- the first token and those behind it, or none
abbrev pub IsSplit : List Token → Option (Token × Bor (List Token)) → Type 0
IsSplit tokens None = tokens ≡ []
IsSplit tokens (Some split) = tokens ≡ split.0 ∷ split.1.now

-- the tokens behind a word, and behind these words, which have to stand first
abbrev pub behind_one : (text word : List ℕ) → List Token → Option (List Token)
behind_one text word [] = None
behind_one text word (token ∷ tokens) = if reads text token word then Some tokens else None

abbrev pub behind : (text : List ℕ) → (words : List (List ℕ)) → List Token → Option (List Token)
behind text [] tokens = Some tokens
behind text (word ∷ words) tokens = behind_one text word tokens >>= (λ rest. behind text words rest)

abbrev pub is_nothing : Option (List Token) → Bool
is_nothing None = false
is_nothing (Some tokens) = nat_eq (length tokens) 0

-- these words and no more
abbrev pub is_phrase : (text : List ℕ) → (words : List (List ℕ)) → List Token → Bool
is_phrase text words tokens = is_nothing (behind text words tokens)

-- the tokens before the first that is spelled so, and those behind it
abbrev pub cut : (text word : List ℕ) → List Token → Option (List Token × List Token)
cut text word tokens = position (λ token. reads text token word) tokens >>= (λ at. Some (take at tokens, drop (at + 1) tokens))
