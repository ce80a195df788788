use Rattle.std.proofs.Common.{◌≡◌, take}
use Rattle.indexmap.specs.IndexMap.{get}
use Rattle.audit_report.specs.Keys.{same_key}
use Rattle.audit_report.specs.Tallies.{tally_of}
use Rattle.audit_report.specs.declared.key.Key.{Key}
use Rattle.audit_report.proofs.piece.tallies_of.Given as goal

-- the lines so far
abbrev pub invariant-loop-at : goal.invariant-loop-at
invariant-loop-at l = (q : Key) → get same_key l.tallies q ≡ tally_of q l.place (take l.at l.lines)
