use Rattle.std.proofs.Common.{take}
use Rattle.mem_wire.specs.Cuts.{NoMoment}
use Rattle.mem_wire.proofs.lines.before_moment.Given as goal

abbrev pub invariant-loop-i : goal.invariant-loop-i
invariant-loop-i l = NoMoment (take l.i l.lines)
