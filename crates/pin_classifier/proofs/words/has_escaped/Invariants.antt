use Rattle.std.proofs.Common.{◌≡◌, length}
use Rattle.pin_classifier.specs.Statement.{has_escaped}
use Rattle.pin_classifier.proofs.words.has_escaped.Given as goal

abbrev pub invariant-loop-left : goal.invariant-loop-left
invariant-loop-left l = has_escaped l.bytes ≡ has_escaped l.left

abbrev pub decreases-loop-left : goal.decreases-loop-left
decreases-loop-left l = length l.left
