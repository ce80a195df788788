use Rattle.std.proofs.Common.{◌≡◌, length}
use Rattle.admin_port.specs.Answers.{any_end, like}
use Rattle.admin_port.proofs.answer.+like.Given as goal

abbrev pub decreases-like : goal.decreases-like
decreases-like l = length l.pattern.now

-- an end of the name is found just where one is among those that are left
abbrev pub invariant-loop-left : goal.invariant-loop-left
invariant-loop-left l = any_end (like l.rest) l.left ≡ any_end (like l.rest) l.name

abbrev pub decreases-loop-left : goal.decreases-loop-left
decreases-loop-left l = length l.left
