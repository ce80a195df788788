-- Executed comments that are read: those that each server executes, with words, numbers and brackets alone inside.
use Rattle.std.specs.Prelude.{ℕ, ◌-◌, Bool, true, false, not, ◌||◌, ◌&&◌, nat_eq, nat_lt, List, [], ◌∷◌, ◌++◌, drop, length, slice_index_or, take, if◌then◌else◌}
use Rattle.std.specs.Char.{is_ascii_alphanumeric, is_ascii_digit}
use Rattle.std.specs.List.{list_all, list_any}
use Rattle.sql_tokens.specs.Bytes.{is_white}
use Rattle.sql_tokens.specs.Words.{bytes_of}
use Rattle.sql_tokens.specs.declared.token.Token.{Token}
use Rattle.sql_tokens.specs.declared.token.TokenKind.{TokenKind}
use Rattle.sql_tokens.specs.declared.token.TokenKind.TheVariants.{Executed}
use Rattle.pin_classifier.specs.Statement.{has_unread, is_unread, statement}

abbrev pub byte_at : List ℕ → (place : ℕ) → ℕ
byte_at bytes place = slice_index_or bytes place 0

-- five digits, of a version from 4 on and before 5.7.0: MariaDB passes over comments of later ones
abbrev pub is_early : List ℕ → Bool
is_early digits = nat_eq (byte_at digits 0) 52 || (nat_eq (byte_at digits 0) 53 && nat_eq (byte_at digits 1) 48 && nat_lt (byte_at digits 2) 55)

abbrev pub is_old : List ℕ → Bool
is_old digits = list_all is_ascii_digit (take 5 digits) && is_early digits

-- how many bytes stand before what each server executes: `/*!`, or with such digits behind it, and a blank behind them; else 0
abbrev pub front_length : List ℕ → ℕ
front_length bytes =
    if not (nat_eq (byte_at bytes 2) 33) then 0
    else if is_white (byte_at bytes 3) then 3
    else if is_white (byte_at bytes 8) && is_old (drop 3 bytes) then 8
    else 0

-- what stands between these and the `*/`
abbrev pub opened_by : (front : ℕ) → List ℕ → List ℕ
opened_by front bytes = take (length bytes - front - 2) (drop front bytes)

abbrev pub opened : List ℕ → List ℕ
opened bytes = opened_by (front_length bytes) bytes

-- letters, digits, `_`, a space, and `(`, `)`, `,` and `=`
abbrev pub is_plain_byte : ℕ → Bool
is_plain_byte b = is_ascii_alphanumeric b || nat_eq b 95 || nat_eq b 32 || nat_eq b 40 || nat_eq b 41 || nat_eq b 44 || nat_eq b 61

abbrev pub is_plain : List ℕ → Bool
is_plain bytes = not (nat_eq (front_length bytes) 0) && list_all is_plain_byte (opened bytes)

abbrev pub is_executed : TokenKind → Bool
is_executed Executed = true
is_executed _ = false

abbrev pub has_executed : List Token → Bool
has_executed tokens = list_any (λ token. is_executed token.kind) tokens

-- such a comment, or what is read as it stands
abbrev pub is_readable : (text : List ℕ) → Token → Bool
is_readable text token = if is_executed token.kind then is_plain (bytes_of text token) else not (is_unread text token)

-- it has executed comments, these are such, and all else can be read
unfoldable pub opens : (text : List ℕ) → Bool
opens text = has_unread text (statement text) && has_executed (statement text) && (list_all (λ b. nat_lt b 128) text && list_all (is_readable text) (statement text))

abbrev pub shown_by : TokenKind → List ℕ → List ℕ
shown_by kind bytes = if is_executed kind then opened bytes else bytes

-- a token with a space behind it, or what stands inside of such a comment
abbrev pub piece : (text : List ℕ) → Token → List ℕ
piece text token = shown_by token.kind (bytes_of text token) ++ 32 ∷ []

abbrev pub spaced : (text : List ℕ) → List Token → List ℕ
spaced text [] = []
spaced text (token ∷ tokens) = piece text token ++ spaced text tokens

-- the text that a server reads, where it has such comments
unfoldable pub opened_text : (text : List ℕ) → List ℕ
opened_text text = if opens text then spaced text (statement text) else text
