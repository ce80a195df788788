use Rattle.std.proofs.Common.{◌≡◌, ◌||◌, ℕ, nat_eq}
use Rattle.std.specs.HashSet.{contains}
use Rattle.std.specs.List.{list_any}
use Rattle.shared_core.proofs.needing.add_statements.Given as goal

-- the numbers so far are in the set
abbrev pub invariant-loop-statement : goal.invariant-loop-statement
invariant-loop-statement l = (q : ℕ) → contains nat_eq l.needed q ≡ (contains nat_eq l.initial.needed q || list_any (λ s. nat_eq s.now.prepared.key q) l.yielded)
