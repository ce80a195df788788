use Rattle.std.proofs.Common.{◌-◌, length}
use Rattle.mem_wire.specs.Turns.{PassesLinks}
use Rattle.mem_wire.proofs.naming.search_links.Given as goal

abbrev pub invariant-loop-number : goal.invariant-loop-number
invariant-loop-number l = PassesLinks l.wake l.tracks l.places l.initial.turns l.turns

abbrev pub decreases-loop-number : goal.decreases-loop-number
decreases-loop-number l = length l.places - l.turns.link
