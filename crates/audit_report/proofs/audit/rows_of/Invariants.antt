use Rattle.std.proofs.Common.{◌≡◌, ◌++◌, ◌<◌, map, length}
use Rattle.std.specs.List.{AllByRecursion}
use Rattle.query_rules.specs.Passing.{rules_of}
use Rattle.audit_report.specs.Tallies.{row_at}
use Rattle.audit_report.specs.declared.key.Key.{Key}
use Rattle.audit_report.specs.declared.tally.Tally.{Tally}
use Rattle.audit_report.proofs.audit.rows_of.Given as goal

-- the rows so far, and those of the keys that are left, whose first lines are there
abbrev pub invariant-loop-key : goal.invariant-loop-key
invariant-loop-key l = record {
  rows : l.rows.items ++ map (λ (e : Key × Tally). row_at (rules_of l.rules) l.ask l.lines e.0 e.1) l.key-iterator ≡ map (λ (e : Key × Tally). row_at (rules_of l.rules) l.ask l.lines e.0 e.1) l.initial.key-iterator;
  there : AllByRecursion (λ (e : Key × Tally). e.1.first < length l.lines) l.key-iterator;
}
