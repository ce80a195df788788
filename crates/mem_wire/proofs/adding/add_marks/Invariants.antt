use Rattle.std.proofs.Common.{take}
use Rattle.mx_wire.specs.Adds.{Adds}
use Rattle.mem_wire.specs.Marks.{entries_of}
use Rattle.mem_wire.proofs.adding.add_marks.Given as goal

abbrev pub invariant-loop-mark : goal.invariant-loop-mark
invariant-loop-mark l = Adds l.initial.told (entries_of l.late.link (take l.mark-index l.late.marks)) l.told
