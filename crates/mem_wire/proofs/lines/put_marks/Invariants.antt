use Rattle.std.proofs.Common.{take}
use Rattle.std.specs.List.{filter_map}
use Rattle.mx_wire.specs.Adds.{Adds}
use Rattle.mem_wire.specs.Play.{mark_at}
use Rattle.mem_wire.proofs.lines.put_marks.Given as goal

abbrev pub invariant-loop-line : goal.invariant-loop-line
invariant-loop-line l = Adds l.initial.told (filter_map (mark_at l.opened) (take l.line-index l.lines)) l.told
