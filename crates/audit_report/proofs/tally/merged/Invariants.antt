use Rattle.std.proofs.Common.{◌≡◌}
use Rattle.std.specs.Vec.Iter.{into_iter_items}
use Rattle.indexmap.specs.IndexMap.{get}
use Rattle.audit_report.specs.Keys.{same_key}
use Rattle.audit_report.specs.Tallies.{both, tally_over, AllRead}
use Rattle.audit_report.specs.declared.key.Key.{Key}
use Rattle.audit_report.proofs.tally.merged.Given as goal

-- the pieces so far, and those that are left
abbrev pub invariant-loop-piece : goal.invariant-loop-piece
invariant-loop-piece l = record {
  tallies : (q : Key) → both (get same_key l.merged q) (tally_over q (into_iter_items l.piece-iterator)) ≡ tally_over q (into_iter_items l.initial.piece-iterator);
  read : AllRead (into_iter_items l.piece-iterator) → AllRead (into_iter_items l.initial.piece-iterator);
}
