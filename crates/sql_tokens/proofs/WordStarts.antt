-- A byte of words that is no digit begins a word, and no other token.
use Rattle.std.proofs.Common.{◌≡◌, ℕ, ◌+◌, Bool, true, false, ◌&&◌, not, nat_eq, nat_lt, List, [], ◌∷◌, length, drop, refl, ◌∙◌, ap, arith, eq-eqb}
use Rattle.std.specs.Char.{is_ascii_digit}
use Rattle.std.specs.List.{prefix_len}
use Rattle.std.proofs.lemmas.Bool.{cond-true, cond-false, both_ways, and_parts, and_left, and_right, or_from, ne_eqb, not-true, not_from_false}
use Rattle.sql_tokens.specs.Bytes.{has_byte, is_word_byte, begins_word}
use Rattle.sql_tokens.specs.Comments.{begins_line_comment, begins_block}
use Rattle.sql_tokens.specs.Numbers.{digits_length, hexadecimal_length, fraction_length, decimal_length, number_length}
use Rattle.sql_tokens.specs.Quotes.{begins_quoted, begins_name}
use Rattle.sql_tokens.specs.Tokens.{plain_token_at, token_at}
use Rattle.sql_tokens.specs.Variables.{system_variable_length}
use Rattle.sql_tokens.specs.declared.token.TokenKind.TheVariants.{Word}

-- a byte that passes a test isn't one that doesn't
pub other : (p : ℕ → Bool) (b c : ℕ) → p b ≡ true → p c ≡ false → nat_eq b c ≡ false
other p b c is isn't = ne_eqb b c (λ same. both_ways (p b) (ap p same ∙ isn't) is)

pub not_first : (b c : ℕ) (bytes : List ℕ) → nat_eq b c ≡ false → has_byte (b ∷ bytes) 0 c ≡ false
not_first b c bytes h = and_right (nat_lt 0 (length (b ∷ bytes))) (nat_eq b c) h

no_word : (b c : ℕ) (bytes : List ℕ) → is_word_byte b ≡ true → is_word_byte c ≡ false → has_byte (b ∷ bytes) 0 c ≡ false
no_word b c bytes is isn't = not_first b c bytes (other is_word_byte b c is isn't)

-- what begins with neither a digit nor a point begins with no number
pub no_number : (b : ℕ) (bytes : List ℕ) → is_ascii_digit b ≡ false → nat_eq b 46 ≡ false → number_length (b ∷ bytes) ≡ 0
unfolding number_length decimal_length hexadecimal_length fraction_length
no_number b bytes no_digit no_point =
    let all = b ∷ bytes in
    let no_zero : nat_eq b 48 ≡ false = ne_eqb b 48 (λ same. both_ways (is_ascii_digit b) no_digit (ap is_ascii_digit same)) in
    let hexadecimal : hexadecimal_length all ≡ 0 = cond-false (has_byte all 0 48 && has_byte all 1 120) _ 0 (and_left _ _ (not_first b 48 bytes no_zero)) in
    let digits : digits_length all ≡ 0 = cond-false (is_ascii_digit b) (1 + digits_length bytes) 0 no_digit in
    let fraction : fraction_length all ≡ 0 = cond-false (has_byte all 0 46) _ 0 (not_first b 46 bytes no_point) in
    let mantissa : digits_length all + fraction_length (drop (digits_length all) all) ≡ 0 = ap (λ n. n + fraction_length (drop n all)) digits ∙ ap (λ n. 0 + n) fraction in
    let decimal : decimal_length all ≡ 0 = cond-true (nat_eq (digits_length all + fraction_length (drop (digits_length all) all)) 0) 0 _ (eq-eqb _ 0 mantissa) in
    cond-true (nat_eq (hexadecimal_length all) 0) (decimal_length all) (hexadecimal_length all) (eq-eqb _ 0 hexadecimal) ∙ decimal

plain_word : (b : ℕ) (bytes : List ℕ) → is_word_byte b ≡ true → is_ascii_digit b ≡ false → plain_token_at (b ∷ bytes) ≡ (Word, prefix_len is_word_byte (b ∷ bytes))
unfolding plain_token_at system_variable_length
plain_word b bytes word no_digit =
    let all = b ∷ bytes in
    let no_at : has_byte all 0 64 ≡ false = no_word b 64 bytes word refl in
    let none : system_variable_length all ≡ 0 = cond-false (has_byte all 0 64 && has_byte all 1 64) _ 0 (and_left _ _ no_at) in
    let some : prefix_len is_word_byte all ≡ 1 + prefix_len is_word_byte bytes = cond-true (is_word_byte b) (1 + prefix_len is_word_byte bytes) 0 word in
    cond-false (not (nat_eq (system_variable_length all) 0)) _ _ (ap (λ n. not (nat_eq n 0)) none)
    ∙ cond-false (has_byte all 0 64) _ _ no_at
    ∙ cond-false (not (nat_eq (number_length all) 0)) _ _ (ap (λ n. not (nat_eq n 0)) (no_number b bytes no_digit (other is_word_byte b 46 word refl)))
    ∙ cond-true (not (nat_eq (prefix_len is_word_byte all) 0)) _ _ (not_from_false _ (ne_eqb _ 0 (λ zero. omega (arith, some, zero))))

pub word_first : (b : ℕ) (bytes : List ℕ) → is_word_byte b ≡ true → is_ascii_digit b ≡ false → token_at (b ∷ bytes) ≡ (Word, prefix_len is_word_byte (b ∷ bytes))
unfolding token_at begins_line_comment begins_block begins_quoted begins_name
word_first b bytes word no_digit =
    let all = b ∷ bytes in
    cond-false (begins_line_comment all) _ _ (or_from _ _ (no_word b 35 bytes word refl) (and_left _ _ (and_left _ _ (no_word b 45 bytes word refl))))
    ∙ cond-false (begins_block all) _ _ (and_left _ _ (no_word b 47 bytes word refl))
    ∙ cond-false (begins_quoted all) _ _ (or_from _ _ (no_word b 39 bytes word refl) (no_word b 34 bytes word refl))
    ∙ cond-false (begins_name all) _ _ (no_word b 96 bytes word refl)
    ∙ plain_word b bytes word no_digit

pub word_token : (bytes : List ℕ) → begins_word bytes ≡ true → token_at bytes ≡ (Word, prefix_len is_word_byte bytes)
word_token [] begins = absurd (cc)
word_token (b ∷ bytes) begins =
    let both = and_parts (is_word_byte b) (not (is_ascii_digit b)) begins in
    word_first b bytes both.0 (not-true (is_ascii_digit b) both.1)
