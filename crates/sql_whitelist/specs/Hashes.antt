-- The hashes of digests.
use Rattle.std.specs.Prelude.{◌≡◌, ◌==◌, ℕ, List}
use Rattle.std.specs.List.{list_any}
use Rattle.std.specs.List.Sorted.{IsStrictlyIncreasing}
use Rattle.query_digest.specs.Hash.{hash_of}

-- they are those of the digests, each once, ascending
pub record AreHashes (digests : List (List ℕ)) (hashes : List ℕ) : Type 0 where
  pub ascend : IsStrictlyIncreasing hashes
  pub same : (hash : ℕ) → list_any (λ listed. listed == hash) hashes ≡ list_any (λ digest. hash_of digest == hash) digests
