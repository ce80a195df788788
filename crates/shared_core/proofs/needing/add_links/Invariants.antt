use Rattle.std.proofs.Common.{◌≡◌, ℕ, nat_eq, true}
use Rattle.std.specs.HashSet.{contains}
use Rattle.shared_core.proofs.needing.add_links.Given as goal

-- what is in the set stays
abbrev pub invariant-loop-server : goal.invariant-loop-server
invariant-loop-server l = (q : ℕ) → contains nat_eq l.initial.needed q ≡ true → contains nat_eq l.needed q ≡ true
