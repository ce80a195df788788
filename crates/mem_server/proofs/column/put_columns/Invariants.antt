use Rattle.std.proofs.Common.{◌≡◌, ◌++◌, take, map}
use Rattle.mem_rule.specs.Answers.{column_payload}
use Rattle.mem_server.proofs.column.put_columns.Given as goal

abbrev pub invariant-loop-name : goal.invariant-loop-name
invariant-loop-name l = l.out ≡ l.initial.out ++ map column_payload (take l.name-index l.columns)
