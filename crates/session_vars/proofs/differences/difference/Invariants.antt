use Rattle.std.proofs.Common.{◌≡◌, ◌++◌, drop}
use Rattle.session_vars.specs.Settings.{changes_of, difference_of}
use Rattle.session_vars.specs.Slots.{all_slots}
use Rattle.session_vars.proofs.differences.difference.Given as goal

abbrev pub invariant-loop-slot : goal.invariant-loop-slot
invariant-loop-slot l = l.changes ++ changes_of l.from l.to (drop l.slot-index all_slots) ≡ difference_of l.from l.to
