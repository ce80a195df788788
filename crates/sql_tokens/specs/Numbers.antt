-- Numbers. Each length is 0 where there is none.
use Rattle.std.specs.Prelude.{ℕ, ◌+◌, ◌||◌, ◌&&◌, nat_eq, List, drop, if◌then◌else◌}
use Rattle.std.specs.Char.{is_ascii_digit, is_ascii_hexdigit}
use Rattle.std.specs.List.{prefix_len}
use Rattle.sql_tokens.specs.Bytes.{has_byte, followed_by}

abbrev pub digits_length : List ℕ → ℕ
digits_length bytes = prefix_len is_ascii_digit bytes

-- `0x` and hexadecimal digits
unfoldable pub hexadecimal_length : List ℕ → ℕ
hexadecimal_length bytes = if has_byte bytes 0 48 && has_byte bytes 1 120 then followed_by 2 (prefix_len is_ascii_hexdigit (drop 2 bytes)) else 0

-- `.` and digits
unfoldable pub fraction_length : List ℕ → ℕ
fraction_length bytes = if has_byte bytes 0 46 then followed_by 1 (digits_length (drop 1 bytes)) else 0

-- an optional sign
unfoldable pub sign_length : List ℕ → ℕ
sign_length bytes = if has_byte bytes 0 43 || has_byte bytes 0 45 then 1 else 0

-- `e` or `E`, an optional sign, and digits
unfoldable pub exponent_length : List ℕ → ℕ
exponent_length bytes =
    let front = 1 + sign_length (drop 1 bytes) in
    if has_byte bytes 0 101 || has_byte bytes 0 69 then followed_by front (digits_length (drop front bytes)) else 0

-- digits and a fraction, of which one may be missing, and then an exponent that may be missing
unfoldable pub decimal_length : List ℕ → ℕ
decimal_length bytes =
    let digits = digits_length bytes in
    let mantissa = digits + fraction_length (drop digits bytes) in
    if nat_eq mantissa 0 then 0 else mantissa + exponent_length (drop mantissa bytes)

unfoldable pub number_length : List ℕ → ℕ
number_length bytes = if nat_eq (hexadecimal_length bytes) 0 then decimal_length bytes else hexadecimal_length bytes
