-- A token takes at least one byte, and no more than there are.
use Rattle.std.proofs.Common.{◌≡◌, ◌≤◌, ◌<◌, ℕ, ◌+◌, true, ◌&&◌, ◌||◌, not, cond, nat_eq, nat_lt, List, [], ◌∷◌, length, get_or, drop, Option, Some, None, inl, inr, arith, length-drop}
use Rattle.std.specs.List.{prefix_len}
use Rattle.std.proofs.lemmas.Bool.{cond_both, cond-true, and_parts, or_cases, eqb-true, eqb-false, not-true, not_from_false, ne_eqb}
use Rattle.std.proofs.lemmas.List.Sums.{prefix_len-le-length}
use Rattle.sql_tokens.specs.Bytes.{has_byte, is_word_byte, is_white_or_control}
use Rattle.sql_tokens.specs.Comments.{begins_line_comment, line_length, begins_block, block_length, executes}
use Rattle.sql_tokens.specs.Quotes.{begins_quoted, begins_name, quoted_length}
use Rattle.sql_tokens.specs.Variables.{system_variable_length, variable_name_length}
use Rattle.sql_tokens.specs.Numbers.{number_length}
use Rattle.sql_tokens.specs.Tokens.{closed, plain_token_at, token_at}
use Rattle.sql_tokens.specs.declared.token.TokenKind.{TokenKind}
use Rattle.sql_tokens.specs.declared.token.TokenKind.TheVariants.{Word, Quoted, Name, Number, UserVar, SysVar, Symbol, Comment, Executed}
use Rattle.sql_tokens.proofs.Ends.{EndsWithin, has_byte-inside}
use Rattle.sql_tokens.proofs.Lengths.{quoted_length-within, block_length-within, variable_name_length-le, number_length-le, system_variable_length-le}

-- a size of some bytes that are there
abbrev pub IsSize : List ℕ → ℕ → Type 0
IsSize bytes size = (0 < size) × (size ≤ length bytes)

closed-size : (kind : TokenKind) (end : Option ℕ) (bytes : List ℕ) → 0 < length bytes → EndsWithin (length bytes) end → IsSize bytes (closed kind end bytes).1
closed-size kind None bytes some h = (some, omega arith)
closed-size kind (Some n) bytes some h = h

-- a length that isn't 0
some_length : (bytes : List ℕ) (n : ℕ) → n ≤ length bytes → not (nat_eq n 0) ≡ true → IsSize bytes n
some_length bytes n h some = let ne : n ≡ 0 → ⊥ = eqb-false n 0 (not-true (nat_eq n 0) some) in (omega arith, h)

first_byte : (b c : ℕ) (bytes : List ℕ) → has_byte (b ∷ bytes) 0 c ≡ true → b ≡ c
first_byte b c bytes h = eqb-true b c (and_parts (nat_lt 0 (length (b ∷ bytes))) (nat_eq b c) h).1

-- a line comment begins with a byte that isn't a line feed
comment_byte : (b : ℕ) (bytes : List ℕ) → begins_line_comment (b ∷ bytes) ≡ true → b ≡ 10 → ⊥
unfolding begins_line_comment
comment_byte b bytes h lf =
    let dashes = has_byte (b ∷ bytes) 0 45 && has_byte (b ∷ bytes) 1 45 in
    let behind = not (nat_lt 2 (length (b ∷ bytes))) || is_white_or_control (get_or (b ∷ bytes) 2 0) in
    elim (or_cases (has_byte (b ∷ bytes) 0 35) (dashes && behind) h) [
      | inl e ↦ let hash : b ≡ 35 = first_byte b 35 bytes e in absurd (omega arith)
      | inr e ↦ let dash : b ≡ 45 = first_byte b 45 bytes (and_parts (has_byte (b ∷ bytes) 0 45) (has_byte (b ∷ bytes) 1 45) (and_parts dashes behind e).0).0 in absurd (omega arith)
    ]

line_length-size : (bytes : List ℕ) → 0 < length bytes → begins_line_comment bytes ≡ true → IsSize bytes (line_length bytes)
line_length-size [] some h = absurd (omega arith)
line_length-size (b ∷ bytes) some h =
    let on : not (nat_eq b 10) ≡ true = not_from_false (nat_eq b 10) (ne_eqb b 10 (comment_byte b bytes h)) in
    let all = prefix_len-le-length (λ x. not (nat_eq x 10)) (b ∷ bytes) in
    let is : line_length (b ∷ bytes) ≡ 1 + line_length bytes = cond-true (not (nat_eq b 10)) _ _ on in
    (omega arith, all)

block_bytes : (bytes : List ℕ) → begins_block bytes ≡ true → 2 ≤ length bytes
unfolding begins_block
block_bytes bytes h = has_byte-inside bytes 1 42 (and_parts (has_byte bytes 0 47) (has_byte bytes 1 42) h).1

plain_token_at-size : (bytes : List ℕ) → 0 < length bytes → IsSize bytes (plain_token_at bytes).1
unfolding plain_token_at
plain_token_at-size bytes some =
    let P : TokenKind × ℕ → Type 0 = λ t. IsSize bytes t.1 in
    let system = system_variable_length bytes in
    let number = number_length bytes in
    let word = prefix_len is_word_byte bytes in
    let word_or_symbol : TokenKind × ℕ = cond (not (nat_eq word 0)) (Word, word) (Symbol, 1) in
    let number_or_less : TokenKind × ℕ = cond (not (nat_eq number 0)) (Number, number) word_or_symbol in
    let user : TokenKind × ℕ = (UserVar, 1 + variable_name_length (drop 1 bytes)) in
    cond_both (not (nat_eq system 0)) (SysVar, system) (cond (has_byte bytes 0 64) user number_or_less) P
    (some_length bytes system (system_variable_length-le bytes))
    (λ _. cond_both (has_byte bytes 0 64) user number_or_less P
    (λ _. (omega arith, omega (arith, variable_name_length-le (drop 1 bytes), length-drop 1 bytes)))
    (λ _. cond_both (not (nat_eq number 0)) (Number, number) word_or_symbol P
    (some_length bytes number (number_length-le bytes))
    (λ _. cond_both (not (nat_eq word 0)) (Word, word) (Symbol, 1) P
    (some_length bytes word (prefix_len-le-length is_word_byte bytes))
    (λ _. (omega arith, some)))))

pub token_at-size : (bytes : List ℕ) → 0 < length bytes → IsSize bytes (token_at bytes).1
unfolding token_at
token_at-size bytes some =
    let P : TokenKind × ℕ → Type 0 = λ t. IsSize bytes t.1 in
    let block_kind : TokenKind = cond (executes bytes) Executed Comment in
    let block = closed block_kind (block_length bytes) bytes in
    let quoted = closed Quoted (quoted_length bytes) bytes in
    let name = closed Name (quoted_length bytes) bytes in
    let name_or_less = cond (begins_name bytes) name (plain_token_at bytes) in
    let quoted_or_less = cond (begins_quoted bytes) quoted name_or_less in
    cond_both (begins_line_comment bytes) (Comment, line_length bytes) (cond (begins_block bytes) block quoted_or_less) P
    (line_length-size bytes some)
    (λ _. cond_both (begins_block bytes) block quoted_or_less P
    (λ h. closed-size block_kind (block_length bytes) bytes some (block_length-within bytes (block_bytes bytes h)))
    (λ _. cond_both (begins_quoted bytes) quoted name_or_less P
    (λ _. closed-size Quoted (quoted_length bytes) bytes some (quoted_length-within bytes))
    (λ _. cond_both (begins_name bytes) name (plain_token_at bytes) P
    (λ _. closed-size Name (quoted_length bytes) bytes some (quoted_length-within bytes))
    (λ _. plain_token_at-size bytes some))))
