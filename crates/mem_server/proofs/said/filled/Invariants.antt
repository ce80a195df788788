use Rattle.std.proofs.Common.{◌≡◌, [], drop}
use Rattle.mem_rule.specs.Statements.{filled_from}
use Rattle.mem_server.proofs.said.filled.Given as goal

abbrev pub invariant-loop-value : goal.invariant-loop-value
invariant-loop-value l = filled_from (drop l.value-index l.values) l.left l.out ≡ filled_from l.values l.bound []
