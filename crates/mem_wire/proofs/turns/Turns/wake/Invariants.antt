use Rattle.std.proofs.Common.{take}
use Rattle.mem_wire.specs.Turns.{Seen}
use Rattle.mem_wire.proofs.turns.Turns.wake.Given as goal

abbrev pub invariant-loop-i : goal.invariant-loop-i
invariant-loop-i l = Seen l.tracks l.from (take l.i l.lines) l.fn.self l.self
