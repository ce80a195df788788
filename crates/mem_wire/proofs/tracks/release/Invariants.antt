use Rattle.std.proofs.Common.{take}
use Rattle.mem_wire.specs.Tracks.{Released}
use Rattle.mem_wire.proofs.tracks.release.Given as goal

abbrev pub invariant-loop-line : goal.invariant-loop-line
invariant-loop-line l = Released l.wake (take l.line-index l.lines) l.initial.tracks.items l.tracks.items
