-- A text and its tokens: what it means that a text has these tokens and no others.
use Rattle.std.specs.Prelude.{◌≡◌, ◌≤◌, ◌<◌, ℕ, ◌-◌, false, IsTrue, List, [], ◌∷◌, length, drop, slice_range, slice_index}
use Rattle.std.specs.List.{list_all}
use Rattle.sql_tokens.specs.Bytes.{is_white}
use Rattle.sql_tokens.specs.Tokens.{token_at}
use Rattle.sql_tokens.specs.declared.token.Token.{Token}

-- a token behind a place: white space alone stands before it, it isn't white space itself, and it is what the first
-- rule that fits at its place takes
pub record IsTokenBehind (text : List ℕ) (place : ℕ) (token : Token) : Type 0 where
  pub from : place ≤ token.start
  pub some : token.start < token.end
  pub to : token.end ≤ length text
  pub white : IsTrue (list_all is_white (slice_range text place token.start))
  pub dark : is_white (slice_index text token.start) ≡ false
  pub rule : token_at (drop token.start text) ≡ (token.kind, token.end - token.start)

-- from a place on the text has these tokens, in order, and white space alone behind the last
abbrev pub AreTokens : (text : List ℕ) → (place : ℕ) → List Token → Type 0
AreTokens text place [] = IsTrue (list_all is_white (drop place text))
AreTokens text place (token ∷ tokens) = IsTokenBehind text place token × AreTokens text token.end tokens

-- some bytes of the text
abbrev pub IsSpan : (text : List ℕ) → Token → Type 0
IsSpan text token = (token.start < token.end) × (token.end ≤ length text)
