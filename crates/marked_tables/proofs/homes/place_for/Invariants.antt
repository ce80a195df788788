use Rattle.std.specs.Prelude.{length, ◌-◌}
use Rattle.marked_tables.proofs.Rising.{IsBelow}
use Rattle.marked_tables.proofs.homes.place_for.Given as goal

abbrev pub invariant-loop-place : goal.invariant-loop-place
invariant-loop-place l = IsBelow l.link l.links l.place

abbrev pub decreases-loop-place : goal.decreases-loop-place
decreases-loop-place l = length l.links - l.place
