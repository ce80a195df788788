use Rattle.std.proofs.Common.{◌≡◌, ◌-◌, []}
use Rattle.mem_rule.specs.Statements.{bound_from}
use Rattle.mem_server.proofs.said.bound.Given as goal

abbrev pub invariant-loop-parameter : goal.invariant-loop-parameter
invariant-loop-parameter l = bound_from (l.count - l.parameter) l.parameter l.at l.b l.out ≡ bound_from l.count 0 0 l.b []
