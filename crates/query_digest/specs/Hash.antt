-- The hash of a digest.
use Rattle.std.specs.Prelude.{ℕ, List, take}
use Rattle.std.specs.Int.{w64, from_be_bytes}
use Rattle.sha1.specs.Sha1.{sha1}

-- the first eight bytes of its SHA-1, the first byte highest
abbrev pub hash_of : List ℕ → ℕ
hash_of digest = from_be_bytes w64 (take 8 (sha1 digest))
