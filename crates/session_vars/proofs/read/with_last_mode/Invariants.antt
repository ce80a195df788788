use Rattle.std.proofs.Common.{◌≡◌, ◌++◌, length}
use Rattle.session_vars.specs.Shapes.{with_last_mode}
use Rattle.session_vars.proofs.read.with_last_mode.Given as goal

abbrev pub invariant-loop-left : goal.invariant-loop-left
invariant-loop-left l = l.kept ++ with_last_mode l.left ≡ with_last_mode l.changes

abbrev pub decreases-loop-left : goal.decreases-loop-left
decreases-loop-left l = length l.left
