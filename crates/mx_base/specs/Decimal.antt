-- Numbers in decimal digits.
use Rattle.std.specs.Prelude.{ℕ, ◌+◌, ◌*◌, ◌-◌, ◌^◌, ◌==◌, ◌&&◌, not, nat_lt, nat_le, Bool, false, if◌then◌else◌, List, [], ◌∷◌, fold, Option, Some, None}
use Rattle.std.specs.List.{list_all}
use Rattle.mx_base.specs.Steps.{◌>>=◌}

abbrev pub is_digit : ℕ → Bool
is_digit b = nat_le 48 b && nat_le b 57

abbrev pub with_digit : ℕ → ℕ → ℕ
with_digit n digit = n * 10 + (digit - 48)

-- the value of decimal digits
abbrev pub decimal_value : List ℕ → ℕ
decimal_value digits = fold with_digit 0 digits

abbrev pub leads_with_zero : List ℕ → Bool
leads_with_zero (b ∷ c ∷ text) = b == 48
leads_with_zero _ = false

-- decimal digits, at least one, of which a 0 stands first only where it stands alone
abbrev pub is_decimal : List ℕ → Bool
is_decimal [] = false
is_decimal (b ∷ text) = list_all is_digit (b ∷ text) && not (leads_with_zero (b ∷ text))

abbrev pub in_64_bits : ℕ → Option ℕ
in_64_bits n = if nat_lt n (2 ^ 64) then Some n else None

-- the number that a text spells, where it fits 64 bits
unfoldable pub number : List ℕ → Option ℕ
number text = if is_decimal text then in_64_bits (decimal_value text) else None

abbrev pub at_most : ℕ → ℕ → Option ℕ
at_most most n = if nat_le n most then Some n else None

-- the number that a text spells, where it is at most so much
unfoldable pub number_to : (most : ℕ) → List ℕ → Option ℕ
number_to most text = number text >>= at_most most
