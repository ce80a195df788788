use Rattle.std.proofs.Common.{◌≡◌, ◌++◌, take}
use Rattle.admin_port.proofs.row_values.put_copies.Given as goal

abbrev pub invariant-loop-pair : goal.invariant-loop-pair
invariant-loop-pair l = l.all.items ≡ l.fn.all.items ++ take l.pair-index l.pairs
