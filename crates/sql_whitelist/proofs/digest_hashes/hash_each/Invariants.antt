use Rattle.std.proofs.Common.{◌≡◌, map, take}
use Rattle.query_digest.specs.Hash.{hash_of}
use Rattle.sql_whitelist.proofs.digest_hashes.hash_each.Given as goal

-- the hashes of the digests so far
abbrev pub invariant-loop-digest : goal.invariant-loop-digest
invariant-loop-digest l = l.hashes.items ≡ map hash_of (take l.digest-index l.digests)
