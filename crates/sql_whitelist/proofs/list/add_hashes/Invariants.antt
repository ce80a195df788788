use Rattle.std.proofs.Common.{◌≡◌, ◌||◌, ◌==◌, ℕ, nat_eq, take}
use Rattle.std.specs.HashSet.{contains}
use Rattle.std.specs.List.{list_any}
use Rattle.sql_whitelist.proofs.list.add_hashes.Given as goal

-- the hashes before, and those so far
abbrev pub invariant-loop-hash : goal.invariant-loop-hash
invariant-loop-hash l = (q : ℕ) → contains nat_eq l.digests q ≡ (contains nat_eq l.initial.digests q || list_any (λ listed. listed == q) (take l.hash-index l.hashes))
