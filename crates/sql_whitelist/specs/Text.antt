-- Hashes as a row of the configuration has them.
use Rattle.std.specs.Prelude.{ℕ, List, [], ◌∷◌, ◌++◌, codes, flat_map}
use Rattle.std.specs.Int.{w64, to_be_bytes}
use Rattle.hex.specs.Hex.{encode_lower}

-- 16 hexadecimal digits in double quotes, the highest first
unfoldable pub quoted : (hash : ℕ) → List ℕ
quoted hash = codes "\"" ++ (encode_lower (to_be_bytes w64 hash) ++ codes "\"")

abbrev pub behind : (hash : ℕ) → List ℕ
behind hash = codes ", " ++ quoted hash

-- with `, ` between two of them
abbrev pub hashes_text : (hashes : List ℕ) → List ℕ
hashes_text [] = []
hashes_text (hash ∷ hashes) = quoted hash ++ flat_map behind hashes

abbrev pub digests_line : (hashes : List ℕ) → List ℕ
digests_line hashes = codes "digests = [" ++ (hashes_text hashes ++ codes "]\n")
