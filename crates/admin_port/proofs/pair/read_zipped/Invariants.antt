use Rattle.std.proofs.Common.{◌≡◌, [], length}
use Rattle.admin_port.specs.Pairs.{zipped_from}
use Rattle.admin_port.proofs.pair.read_zipped.Given as goal

abbrev pub invariant-loop-column : goal.invariant-loop-column
invariant-loop-column l = zipped_from l.text [] l.columns l.values ≡ zipped_from l.text l.pairs l.left l.others

abbrev pub decreases-loop-column : goal.decreases-loop-column
decreases-loop-column l = length l.left
