use Rattle.std.proofs.Common.{◌≡◌, ℕ, nat_eq, take}
use Rattle.std.specs.HashSet.{contains}
use Rattle.mem_wire.specs.Lines.{is_refused}
use Rattle.mem_wire.proofs.refusals.refused_opens.Given as goal

abbrev pub invariant-loop-entry : goal.invariant-loop-entry
invariant-loop-entry l = (k : ℕ) → contains nat_eq l.found k ≡ is_refused k (take l.entry-index l.entries)
