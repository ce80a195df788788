use Rattle.std.proofs.Common.{◌≡◌, [], length}
use Rattle.admin_port.specs.Pairs.{names_from}
use Rattle.admin_port.proofs.pair.read_names.Given as goal

abbrev pub invariant-loop-name : goal.invariant-loop-name
invariant-loop-name l = names_from l.text [] l.tokens ≡ names_from l.text l.names l.left

abbrev pub decreases-loop-name : goal.decreases-loop-name
decreases-loop-name l = length l.left
