use Rattle.std.proofs.Common.{◌≡◌, ◌++◌}
use Rattle.mem_rule.specs.Notes.{notes_from, notes_of}
use Rattle.mem_server.proofs.note.notes_of.Given as goal

-- what is read, with what is left, is all of it
abbrev pub invariant-loop-left : goal.invariant-loop-left
invariant-loop-left l = l.notes ++ notes_from l.left l.at l.bytes ≡ notes_of l.bytes

abbrev pub decreases-loop-left : goal.decreases-loop-left
decreases-loop-left l = l.left
