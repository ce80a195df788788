use Rattle.std.proofs.Common.{◌≡◌}
use Rattle.std.specs.List.{IsDistinct}
use Rattle.std.specs.Map.{keys_of, lookup}
use Rattle.indexmap.specs.IndexMap.{get}
use Rattle.audit_report.specs.Keys.{same_key}
use Rattle.audit_report.specs.Tallies.{both}
use Rattle.audit_report.specs.declared.key.Key.{Key}
use Rattle.audit_report.proofs.tally.merge.Given as goal

-- what was counted so far, and what is left, each key of which stands there once
abbrev pub invariant-loop-key : goal.invariant-loop-key
invariant-loop-key l = record {
  tallies : (q : Key) → both (get same_key l.tallies q) (lookup (same_key q) l.key-iterator) ≡ both (get same_key l.initial.tallies q) (lookup (same_key q) l.initial.key-iterator);
  apart : IsDistinct same_key (keys_of l.key-iterator);
}
