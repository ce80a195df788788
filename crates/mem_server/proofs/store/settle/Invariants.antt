use Rattle.std.proofs.Common.{◌≡◌, ◌≤◌, ◌-◌, drop, length}
use Rattle.mem_rule.specs.Tables.{after_all}
use Rattle.mem_server.proofs.store.settle.Given as goal

-- with the notes that are left the data are the same
abbrev pub invariant-loop-done : goal.invariant-loop-done
invariant-loop-done l = (after_all l.base (drop l.done l.notes) ≡ after_all l.initial.base (drop l.initial.done l.notes)) × (l.done ≤ length l.notes)

abbrev pub decreases-loop-done : goal.decreases-loop-done
decreases-loop-done l = length l.notes - l.done
