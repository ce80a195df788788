use Rattle.std.proofs.Common.{◌≡◌, ◌++◌, length}
use Rattle.admin_port.specs.Values.{undone}
use Rattle.admin_port.proofs.value.undone.Given as goal

abbrev pub invariant-loop-left : goal.invariant-loop-left
invariant-loop-left l = undone l.quote l.bytes ≡ l.text ++ undone l.quote l.left

abbrev pub decreases-loop-left : goal.decreases-loop-left
decreases-loop-left l = length l.left
