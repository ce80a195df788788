use Rattle.std.proofs.Common.{◌≡◌, [], length}
use Rattle.admin_port.specs.Pairs.{pairs_from}
use Rattle.admin_port.proofs.pair.read_pairs.Given as goal

abbrev pub invariant-loop-column : goal.invariant-loop-column
invariant-loop-column l = pairs_from l.text l.between [] l.tokens ≡ pairs_from l.text l.between l.pairs l.left

abbrev pub decreases-loop-column : goal.decreases-loop-column
decreases-loop-column l = length l.left
