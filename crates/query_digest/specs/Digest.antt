-- The digest of a statement.
use Rattle.std.specs.Prelude.{ℕ, Bool, true, false, not, nat_lt, List, [], ◌∷◌, Option, Some, None, filter}
use Rattle.sql_tokens.specs.Tokens.{tokens_of}
use Rattle.sql_tokens.specs.Words.{bytes_of}
use Rattle.sql_tokens.specs.declared.token.Token.{Token}
use Rattle.sql_tokens.specs.declared.token.TokenKind.{TokenKind}
use Rattle.sql_tokens.specs.declared.token.TokenKind.TheVariants.{Comment}
use Rattle.query_digest.specs.Parts.{Spaced, part_by, folded, spelled}

abbrev pub is_comment : TokenKind → Bool
is_comment Comment = true
is_comment _ = false

-- first, comments are dropped
abbrev pub without_comments : List Token → List Token
without_comments tokens = filter (λ token. not (is_comment token.kind)) tokens

-- something stood between the token that ended at this place, if there was one, and one that starts
abbrev pub is_apart : (end : Option ℕ) → (start : ℕ) → Bool
is_apart None start = false
is_apart (Some end) start = nat_lt end start

-- then, values are replaced, and where anything stood between two tokens, white space or a comment, a blank does
abbrev pub parts_of : (text : List ℕ) → (end : Option ℕ) → List Token → List Spaced
parts_of text end [] = []
parts_of text end (token ∷ tokens) = record { apart = is_apart end token.start; part = part_by token.kind (bytes_of text token) } ∷ parts_of text (Some token.end) tokens

-- and last, lists of values are folded
abbrev pub digest_of : (text : List ℕ) → List ℕ
digest_of text = spelled (folded (parts_of text None (without_comments (tokens_of text))))
