use Rattle.std.proofs.Common.{drop}
use Rattle.core_says.specs.Marking.{AreMarked}
use Rattle.core_says.proofs.marking.mark_homes.Given as goal

abbrev pub invariant-loop-session : goal.invariant-loop-session
invariant-loop-session l = AreMarked (drop l.session-index l.sessions) l.sessions l.initial.marks l.marks
