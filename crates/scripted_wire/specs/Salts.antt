-- Salts of links.
use Rattle.std.specs.Prelude.{ℕ, ◌+◌, ◌/◌, ◌%◌, List, [], ◌∷◌}

abbrev pub salt_byte : ℕ → ℕ
salt_byte number = number % 127 + 1

-- that of the link of this number
abbrev pub salt_of : (number : ℕ) → List ℕ
salt_of number =
    salt_byte number ∷ salt_byte (number / 127) ∷ salt_byte (number / 16129) ∷ salt_byte (number / 2048383)
    ∷ 101 ∷ 102 ∷ 103 ∷ 104 ∷ 105 ∷ 106 ∷ 107 ∷ 108 ∷ 109 ∷ 110 ∷ 111 ∷ 112 ∷ 113 ∷ 114 ∷ 115 ∷ 116 ∷ []
