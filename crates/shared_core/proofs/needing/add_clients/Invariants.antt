use Rattle.std.proofs.Common.{◌≡◌, ◌||◌, ℕ, nat_eq}
use Rattle.std.specs.HashSet.{contains}
use Rattle.std.specs.List.{list_any}
use Rattle.shared_core.specs.Needed.{needs}
use Rattle.shared_core.proofs.needing.add_clients.Given as goal

-- the set has what those need that were gone over
abbrev pub invariant-loop-row : goal.invariant-loop-row
invariant-loop-row l = (q : ℕ) → contains nat_eq l.needed q ≡ (contains nat_eq l.initial.needed q || list_any (λ r. needs r.now q) l.yielded)
