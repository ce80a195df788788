use Rattle.std.proofs.Common.{◌≡◌, take}
use Rattle.audit_report.specs.Text.{report_text}
use Rattle.audit_report.proofs.text.report_text.Given as goal

-- the lines of the rows so far
abbrev pub invariant-loop-row : goal.invariant-loop-row
invariant-loop-row l = l.text ≡ report_text (take l.row-index l.rows)
