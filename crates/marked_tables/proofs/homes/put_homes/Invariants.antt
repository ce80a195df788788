use Rattle.std.proofs.Common.{drop}
use Rattle.marked_tables.proofs.Rising.{GainsFrom}
use Rattle.marked_tables.proofs.homes.put_homes.Given as goal

abbrev pub invariant-loop-session : goal.invariant-loop-session
invariant-loop-session l = GainsFrom (drop l.session-index l.sessions) l.sessions l.initial.links.items l.links.items
