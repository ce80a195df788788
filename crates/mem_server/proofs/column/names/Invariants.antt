use Rattle.std.proofs.Common.{◌≡◌, map, take}
use Rattle.mem_server.proofs.column.names.Given as goal

abbrev pub invariant-loop-name : goal.invariant-loop-name
invariant-loop-name l = l.out ≡ map (λ name. name.now) (take l.name-index l.list)
