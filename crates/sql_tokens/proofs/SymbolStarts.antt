-- A byte that begins nothing else is a Symbol.
use Rattle.std.proofs.Common.{◌≡◌, ◌<◌, ◌≤◌, ℕ, Bool, true, false, ◌&&◌, not, nat_eq, nat_le, List, [], ◌∷◌, refl, sym, ◌∙◌, ap, inl, inr, arith}
use Rattle.std.specs.Char.{is_ascii_digit}
use Rattle.std.specs.List.{prefix_len}
use Rattle.std.proofs.Math.Bool.{and-true}
use Rattle.std.proofs.lemmas.Bool.{agree_below, agree_below_at, cond-false, and_left, and_parts, or_cases, or_from, leb-true}
use Rattle.sql_tokens.specs.Bytes.{has_byte, is_lone_byte, is_word_byte, begins_symbol}
use Rattle.sql_tokens.specs.Comments.{begins_line_comment, begins_block}
use Rattle.sql_tokens.specs.Numbers.{number_length}
use Rattle.sql_tokens.specs.Quotes.{begins_quoted, begins_name}
use Rattle.sql_tokens.specs.Tokens.{plain_token_at, token_at}
use Rattle.sql_tokens.specs.Variables.{system_variable_length}
use Rattle.sql_tokens.specs.declared.token.TokenKind.TheVariants.{Symbol}
use Rattle.sql_tokens.proofs.WordStarts.{no_number, not_first, other}

lone_small : (b : ℕ) → is_lone_byte b ≡ true → b < 64
lone_small b lone =
    elim (or_cases (nat_le 40 b && nat_le b 44) (nat_le 59 b && nat_le b 63) lone) [
      | inl e ↦ let low : b ≤ 44 = leb-true b 44 (and_parts (nat_le 40 b) (nat_le b 44) e).1 in omega arith
      | inr e ↦ let high : b ≤ 63 = leb-true b 63 (and_parts (nat_le 59 b) (nat_le b 63) e).1 in omega arith
    ]

-- a test that none of them passes
none_pass : (p : ℕ → Bool) → agree_below (λ b. p b && is_lone_byte b) (λ _. false) 64 ≡ true → (b : ℕ) → is_lone_byte b ≡ true → p b ≡ false
none_pass p none b lone = sym (and-true (p b)) ∙ ap (λ is. p b && is) (sym lone) ∙ agree_below_at (λ b. p b && is_lone_byte b) (λ _. false) 64 b none (lone_small b lone)

no_other : (b c : ℕ) (bytes : List ℕ) → is_lone_byte b ≡ true → is_lone_byte c ≡ false → has_byte (b ∷ bytes) 0 c ≡ false
no_other b c bytes is isn't = not_first b c bytes (other is_lone_byte b c is isn't)

plain_symbol : (b : ℕ) (bytes : List ℕ) → is_lone_byte b ≡ true → plain_token_at (b ∷ bytes) ≡ (Symbol, 1)
unfolding plain_token_at system_variable_length
plain_symbol b bytes lone =
    let all = b ∷ bytes in
    let no_at : has_byte all 0 64 ≡ false = no_other b 64 bytes lone refl in
    let none : system_variable_length all ≡ 0 = cond-false (has_byte all 0 64 && has_byte all 1 64) _ 0 (and_left _ _ no_at) in
    let no_word : prefix_len is_word_byte all ≡ 0 = cond-false (is_word_byte b) _ 0 (none_pass is_word_byte refl b lone) in
    cond-false (not (nat_eq (system_variable_length all) 0)) _ _ (ap (λ n. not (nat_eq n 0)) none)
    ∙ cond-false (has_byte all 0 64) _ _ no_at
    ∙ cond-false (not (nat_eq (number_length all) 0)) _ _ (ap (λ n. not (nat_eq n 0)) (no_number b bytes (none_pass is_ascii_digit refl b lone) (other is_lone_byte b 46 lone refl)))
    ∙ cond-false (not (nat_eq (prefix_len is_word_byte all) 0)) _ _ (ap (λ n. not (nat_eq n 0)) no_word)

symbol_first : (b : ℕ) (bytes : List ℕ) → is_lone_byte b ≡ true → token_at (b ∷ bytes) ≡ (Symbol, 1)
unfolding token_at begins_line_comment begins_block begins_quoted begins_name
symbol_first b bytes lone =
    let all = b ∷ bytes in
    cond-false (begins_line_comment all) _ _ (or_from _ _ (no_other b 35 bytes lone refl) (and_left _ _ (and_left _ _ (no_other b 45 bytes lone refl))))
    ∙ cond-false (begins_block all) _ _ (and_left _ _ (no_other b 47 bytes lone refl))
    ∙ cond-false (begins_quoted all) _ _ (or_from _ _ (no_other b 39 bytes lone refl) (no_other b 34 bytes lone refl))
    ∙ cond-false (begins_name all) _ _ (no_other b 96 bytes lone refl)
    ∙ plain_symbol b bytes lone

pub symbol_token : (bytes : List ℕ) → begins_symbol bytes ≡ true → token_at bytes ≡ (Symbol, 1)
symbol_token [] begins = absurd (cc)
symbol_token (b ∷ bytes) begins = symbol_first b bytes begins
