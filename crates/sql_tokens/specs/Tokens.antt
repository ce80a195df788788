-- The tokens of a statement.
use Rattle.std.specs.Prelude.{◌≡◌, ◌≤◌, ℕ, zero, suc, ◌+◌, ◌-◌, not, nat_eq, List, [], ◌∷◌, length, drop, Option, Some, None, if◌then◌else◌}
use Rattle.std.specs.List.{prefix_len}
use Rattle.sql_tokens.specs.Bytes.{has_byte, is_white, is_word_byte}
use Rattle.sql_tokens.specs.Comments.{begins_line_comment, line_length, begins_block, block_length, executes}
use Rattle.sql_tokens.specs.Quotes.{begins_quoted, begins_name, quoted_length}
use Rattle.sql_tokens.specs.Variables.{system_variable_length, variable_name_length}
use Rattle.sql_tokens.specs.Numbers.{number_length}
use Rattle.sql_tokens.specs.declared.token.Token.{Token}
use Rattle.sql_tokens.specs.declared.token.TokenKind.{TokenKind}
use Rattle.sql_tokens.specs.declared.token.TokenKind.TheVariants.{Word, Quoted, Name, Number, UserVar, SysVar, Symbol, Comment, Executed, Unclosed}

-- what has an end, or goes on to the end of the text for want of it
abbrev pub closed : TokenKind → (end : Option ℕ) → List ℕ → TokenKind × ℕ
closed kind None bytes = (Unclosed, length bytes)
closed kind (Some n) bytes = (kind, n)

-- a token that needs no end
unfoldable pub plain_token_at : List ℕ → TokenKind × ℕ
plain_token_at bytes =
    if not (nat_eq (system_variable_length bytes) 0) then (SysVar, system_variable_length bytes)
    else if has_byte bytes 0 64 then (UserVar, 1 + variable_name_length (drop 1 bytes))
    else if not (nat_eq (number_length bytes) 0) then (Number, number_length bytes)
    else if not (nat_eq (prefix_len is_word_byte bytes) 0) then (Word, prefix_len is_word_byte bytes)
    else (Symbol, 1)

-- the token at the front of these bytes, by the first rule that fits: its kind and how many bytes it takes
unfoldable pub token_at : List ℕ → TokenKind × ℕ
token_at bytes =
    if begins_line_comment bytes then (Comment, line_length bytes)
    else if begins_block bytes then closed (if executes bytes then Executed else Comment) (block_length bytes) bytes
    else if begins_quoted bytes then closed Quoted (quoted_length bytes) bytes
    else if begins_name bytes then closed Name (quoted_length bytes) bytes
    else plain_token_at bytes

-- the tokens of a text from a place on, where so many bytes are left of the token before it
unfoldable pub tokens_from : (place left : ℕ) → List ℕ → List Token
tokens_from place left [] = []
tokens_from place (suc left) (b ∷ bytes) = tokens_from (place + 1) left bytes
tokens_from place zero (b ∷ bytes) =
    if is_white b then tokens_from (place + 1) 0 bytes
    else
    let token = token_at (b ∷ bytes) in
    record { kind = token.0; start = place; end = place + token.1 } ∷ tokens_from (place + 1) (token.1 - 1) bytes

-- the tokens of a text that begin at a place or behind it, where no token goes on over it
abbrev pub tokens_behind : List ℕ → (place : ℕ) → List Token
tokens_behind text place = tokens_from place 0 (drop place text)

-- the tokens of a text
abbrev pub tokens_of : List ℕ → List Token
tokens_of text = tokens_behind text 0

-- the tokens that are left are this one and those behind it, or none
abbrev pub IsNextToken : List ℕ → (place : ℕ) → Option Token → Type 0
IsNextToken text place None = tokens_behind text place ≡ []
IsNextToken text place (Some token) = (tokens_behind text place ≡ token ∷ tokens_behind text token.end) × (token.end ≤ length text)
