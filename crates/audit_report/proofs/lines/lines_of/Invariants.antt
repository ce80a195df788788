use Rattle.std.proofs.Common.{◌≡◌, ◌++◌, length}
use Rattle.audit_report.specs.Lines.{lines_of}
use Rattle.audit_report.proofs.lines.lines_of.Given as goal

-- the lines so far, and those of the rest
abbrev pub invariant-loop-rest : goal.invariant-loop-rest
invariant-loop-rest l = l.lines.items ++ lines_of l.rest ≡ lines_of l.initial.rest

abbrev pub decreases-loop-rest : goal.decreases-loop-rest
decreases-loop-rest l = length l.rest
