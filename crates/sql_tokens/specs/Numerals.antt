-- What a number is made of.
use Rattle.std.specs.Prelude.{◌≡◌, ◌⊎◌, ◌<◌, ℕ, ◌+◌, Bool, true, List, [], ◌∷◌, ◌++◌, length}
use Rattle.std.specs.Char.{is_ascii_digit, is_ascii_hexdigit}
use Rattle.std.specs.List.{list_all}

-- one byte or more, each of which passes
abbrev pub AreSome : (ℕ → Bool) → List ℕ → Type 0
AreSome test bytes = (0 < length bytes) × (list_all test bytes ≡ true)

-- nothing, or `.` and digits
abbrev pub IsFraction : List ℕ → Type 0
IsFraction [] = Unit {0}
IsFraction (b ∷ bytes) = (b ≡ 46) × AreSome is_ascii_digit bytes

-- digits, with `+` or `-` before them or without
abbrev pub AreSigned : List ℕ → Type 0
AreSigned [] = ⊥
AreSigned (b ∷ bytes) = (((b ≡ 43) ⊎ (b ≡ 45)) × AreSome is_ascii_digit bytes) ⊎ AreSome is_ascii_digit (b ∷ bytes)

-- nothing, or `e` or `E` and digits with an optional sign
abbrev pub IsExponent : List ℕ → Type 0
IsExponent [] = Unit {0}
IsExponent (b ∷ bytes) = ((b ≡ 101) ⊎ (b ≡ 69)) × AreSigned bytes

-- digits and a fraction, of which one may be missing, and an exponent, which may be missing
pub record IsDecimal (bytes : List ℕ) : Type 0 where
  pub integer : List ℕ
  pub fraction : List ℕ
  pub exponent : List ℕ
  pub parts : bytes ≡ integer ++ (fraction ++ exponent)
  pub is_integer : list_all is_ascii_digit integer ≡ true
  pub is_fraction : IsFraction fraction
  pub is_exponent : IsExponent exponent
  pub some : 0 < length integer + length fraction

-- `0x` and hexadecimal digits
pub record IsHexadecimal (bytes : List ℕ) : Type 0 where
  pub digits : List ℕ
  pub parts : bytes ≡ 48 ∷ 120 ∷ digits
  pub some : AreSome is_ascii_hexdigit digits

abbrev pub IsNumeral : List ℕ → Type 0
IsNumeral bytes = IsHexadecimal bytes ⊎ IsDecimal bytes
