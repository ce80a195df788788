use Rattle.std.proofs.Common.{◌≡◌, ◌++◌, map}
use Rattle.std.specs.Vec.Iter.{into_iter_items}
use Rattle.audit_report.specs.declared.row.ReportRow.{ReportRow}
use Rattle.proxy_run.proofs.reports.digests_of.Given as goal

-- the digests so far, and those of the rows that are left
abbrev pub invariant-loop-row : goal.invariant-loop-row
invariant-loop-row l = l.digests.items ++ map (λ (row : ReportRow). row.digest) (into_iter_items l.row-iterator) ≡ map (λ (row : ReportRow). row.digest) (into_iter_items l.initial.row-iterator)
