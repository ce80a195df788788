-- Lengths of parts are within the text.
use Rattle.std.proofs.Common.{◌≡◌, ◌≤◌, ◌<◌, ℕ, ◌+◌, ◌^◌, Bool, true, ◌&&◌, ◌||◌, cond, nat_eq, List, [], ◌∷◌, length, drop, inl, inr, Option, Some, None, unwrap_or, arith, length-drop}
use Rattle.std.proofs.lemmas.Bool.{cond_both, and_parts, or_cases}
use Rattle.std.proofs.lemmas.Bool.Decides.{nat_tests}
use Rattle.std.proofs.lemmas.List.Sums.{prefix_len-le-length}
use Rattle.std.specs.List.{prefix_len}
use Rattle.std.specs.Char.{is_ascii_digit, is_ascii_hexdigit}
use Rattle.sql_tokens.specs.Bytes.{has_byte, followed_by, is_name_byte}
use Rattle.sql_tokens.specs.Numbers.{digits_length, hexadecimal_length, fraction_length, sign_length, exponent_length, decimal_length, number_length}
use Rattle.sql_tokens.specs.Comments.{to_block_end, block_length}
use Rattle.sql_tokens.specs.Quotes.{begins_quoted, begins_name, to_closing, quoted_length}
use Rattle.sql_tokens.specs.Variables.{name_run, system_variable_length, variable_name_length}
use Rattle.sql_tokens.proofs.Ends.{EndsWithin, has_byte-inside, later-within, to_block_end-within, to_closing-within}

followed_by-le : (front run size : ℕ) → front + run ≤ size → followed_by front run ≤ size
followed_by-le front run size h = grind (arith, nat_tests)

-- a part that is there where a test passes, and has length 0 elsewhere
if_there : (b : Bool) (n size : ℕ) → (b ≡ true → n ≤ size) → cond b n 0 ≤ size
if_there b n size h = cond_both b n 0 (λ x. x ≤ size) h (λ _. omega arith)

-- so many bytes, and behind them a run
front_and_run : (p : ℕ → Bool) (bytes : List ℕ) (front : ℕ) → front ≤ length bytes → followed_by front (prefix_len p (drop front bytes)) ≤ length bytes
front_and_run p bytes front h = followed_by-le front (prefix_len p (drop front bytes)) (length bytes) (omega (arith, prefix_len-le-length p (drop front bytes), length-drop front bytes))

-- a run behind so many bytes ends within a text that fits memory
pub run_fits : (p : ℕ → Bool) (bytes : List ℕ) (front : ℕ) → front < 2 ^ 64 → length bytes < 2 ^ 64 → front + prefix_len p (drop front bytes) < 2 ^ 64
run_fits p bytes front small fits = omega (arith, prefix_len-le-length p (drop front bytes), length-drop front bytes)

pub hexadecimal_length-le : (bytes : List ℕ) → hexadecimal_length bytes ≤ length bytes
unfolding hexadecimal_length
hexadecimal_length-le bytes =
    if_there (has_byte bytes 0 48 && has_byte bytes 1 120) (followed_by 2 (prefix_len is_ascii_hexdigit (drop 2 bytes))) (length bytes)
    (λ h. front_and_run is_ascii_hexdigit bytes 2 (has_byte-inside bytes 1 120 (and_parts (has_byte bytes 0 48) _ h).1))

pub fraction_length-le : (bytes : List ℕ) → fraction_length bytes ≤ length bytes
unfolding fraction_length
fraction_length-le bytes =
    if_there (has_byte bytes 0 46) (followed_by 1 (digits_length (drop 1 bytes))) (length bytes)
    (λ h. front_and_run is_ascii_digit bytes 1 (has_byte-inside bytes 0 46 h))

pub sign_length-le : (bytes : List ℕ) → sign_length bytes ≤ 1
unfolding sign_length
sign_length-le bytes = if_there (has_byte bytes 0 43 || has_byte bytes 0 45) 1 1 (λ h. omega arith)

-- a sign is one of the bytes
sign_length-inside : (bytes : List ℕ) → sign_length bytes ≤ length bytes
unfolding sign_length
sign_length-inside bytes = if_there (has_byte bytes 0 43 || has_byte bytes 0 45) 1 (length bytes) (λ h.
    elim (or_cases (has_byte bytes 0 43) (has_byte bytes 0 45) h) [ inl e ↦ has_byte-inside bytes 0 43 e | inr e ↦ has_byte-inside bytes 0 45 e ])

pub exponent_length-le : (bytes : List ℕ) → exponent_length bytes ≤ length bytes
unfolding exponent_length
exponent_length-le bytes =
    let front = 1 + sign_length (drop 1 bytes) in
    if_there (has_byte bytes 0 101 || has_byte bytes 0 69) (followed_by front (digits_length (drop front bytes))) (length bytes)
    (λ h. let some : 0 < length bytes = elim (or_cases (has_byte bytes 0 101) (has_byte bytes 0 69) h) [ inl e ↦ has_byte-inside bytes 0 101 e | inr e ↦ has_byte-inside bytes 0 69 e ] in
    front_and_run is_ascii_digit bytes front (omega (arith, sign_length-inside (drop 1 bytes), length-drop 1 bytes)))

pub mantissa-le : (bytes : List ℕ) → digits_length bytes + fraction_length (drop (digits_length bytes) bytes) ≤ length bytes
mantissa-le bytes = let digits = digits_length bytes in omega (arith, prefix_len-le-length is_ascii_digit bytes, fraction_length-le (drop digits bytes), length-drop digits bytes)

pub decimal_length-le : (bytes : List ℕ) → decimal_length bytes ≤ length bytes
unfolding decimal_length
decimal_length-le bytes =
    let mantissa = digits_length bytes + fraction_length (drop (digits_length bytes) bytes) in
    cond_both (nat_eq mantissa 0) 0 (mantissa + exponent_length (drop mantissa bytes)) (λ n. n ≤ length bytes)
    (λ _. omega arith)
    (λ _. omega (arith, mantissa-le bytes, exponent_length-le (drop mantissa bytes), length-drop mantissa bytes))

pub number_length-le : (bytes : List ℕ) → number_length bytes ≤ length bytes
unfolding number_length
number_length-le bytes = cond_both (nat_eq (hexadecimal_length bytes) 0) (decimal_length bytes) (hexadecimal_length bytes) (λ n. n ≤ length bytes) (λ _. decimal_length-le bytes) (λ _. hexadecimal_length-le bytes)

pub system_variable_length-le : (bytes : List ℕ) → system_variable_length bytes ≤ length bytes
unfolding system_variable_length
system_variable_length-le bytes =
    if_there (has_byte bytes 0 64 && has_byte bytes 1 64) (followed_by 2 (name_run (drop 2 bytes))) (length bytes)
    (λ h. front_and_run is_name_byte bytes 2 (has_byte-inside bytes 1 64 (and_parts (has_byte bytes 0 64) _ h).1))

pub quoted_length-within : (bytes : List ℕ) → EndsWithin (length bytes) (quoted_length bytes)
unfolding quoted_length
quoted_length-within [] = tt
quoted_length-within (b ∷ bytes) = later-within 1 (length bytes) (length (b ∷ bytes)) (to_closing b bytes) (omega arith) (to_closing-within b bytes)

pub variable_name_length-le : (bytes : List ℕ) → variable_name_length bytes ≤ length bytes
unfolding variable_name_length
variable_name_length-le bytes = cond_both (begins_quoted bytes || begins_name bytes) (unwrap_or (quoted_length bytes) 0) (name_run bytes) (λ n. n ≤ length bytes) (λ _. end_or_none (length bytes) (quoted_length bytes) (quoted_length-within bytes)) (λ _. prefix_len-le-length is_name_byte bytes)
  where
    end_or_none : (size : ℕ) (end : Option ℕ) → EndsWithin size end → unwrap_or end 0 ≤ size
    end_or_none size None h = omega arith
    end_or_none size (Some n) h = h.1

pub block_length-within : (bytes : List ℕ) → 2 ≤ length bytes → EndsWithin (length bytes) (block_length bytes)
unfolding block_length
block_length-within bytes some = later-within 2 (length (drop 2 bytes)) (length bytes) (to_block_end (drop 2 bytes)) (omega (arith, length-drop 2 bytes)) (to_block_end-within (drop 2 bytes))
