use Rattle.std.proofs.Common.{◌≡◌, ◌++◌, take}
use Rattle.mem_wire.specs.Lines.{clients_at}
use Rattle.mem_wire.proofs.lines.arrive.Given as goal

abbrev pub invariant-loop-line : goal.invariant-loop-line
invariant-loop-line l = l.clients.items ≡ l.initial.clients.items ++ clients_at l.port (take l.line-index l.lines)
