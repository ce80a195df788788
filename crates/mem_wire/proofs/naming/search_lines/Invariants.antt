use Rattle.std.specs.BTreeMap.{btree_map_len}
use Rattle.mem_wire.specs.Turns.{PassesLines}
use Rattle.mem_wire.proofs.naming.search_lines.Given as goal

abbrev pub invariant-loop-line : goal.invariant-loop-line
invariant-loop-line l = PassesLines l.wake l.tracks l.initial.turns l.turns

abbrev pub decreases-loop-line : goal.decreases-loop-line
decreases-loop-line l = btree_map_len l.turns.lines
