-- The report of a list of lines.
use Rattle.std.specs.Prelude.{ℕ, ◌+◌, List, [], ◌∷◌, fold}
use Rattle.std.specs.Ordering.{nat_cmp, ordering_then, match_ordering}
use Rattle.std.specs.Cmp.Lexicographic.{slice_cmp}
use Rattle.std.specs.declared.cmp.Ordering.{Ordering}
use Rattle.mx_base.specs.declared.names.Hostgroup.{Hostgroup}
use Rattle.query_digest.specs.Digest.{digest_of}
use Rattle.pin_classifier.specs.Classes.{class_of}
use Rattle.pin_classifier.specs.Kinds.{name_of, printed}
use Rattle.query_rules.specs.declared.ask.Ask.{Ask}
use Rattle.query_rules.specs.declared.rule.Rule.{Rule}
use Rattle.query_rules.specs.Passing.{route_of}
use Rattle.audit_report.specs.declared.ask.AuditAsk.{AuditAsk}
use Rattle.audit_report.specs.declared.row.ReportRow.{ReportRow}

-- a line is asked for as a session's first text
abbrev pub ask_of : AuditAsk → (line : List ℕ) → Ask
ask_of ask line = record { user = ask.user; schema = ask.schema; flag = 0; text = line; default_hostgroup = ask.default_hostgroup }

-- where the rules send a line
unfoldable pub hostgroup_of : List Rule → AuditAsk → (line : List ℕ) → Hostgroup
hostgroup_of rules ask line = (route_of rules (ask_of ask line)).hostgroup

-- a line alone
abbrev pub row_of : List Rule → AuditAsk → (line : List ℕ) → ReportRow
row_of rules ask line = record {
  count = 1;
  class = name_of (class_of line);
  hostgroup = hostgroup_of rules ask line;
  digest = digest_of line;
}

-- rows stand in the order of their digests' bytes, and under one digest in that of their classes' names
abbrev pub row_cmp : ReportRow → ReportRow → Ordering
row_cmp a b = ordering_then (slice_cmp nat_cmp a.digest b.digest) (slice_cmp nat_cmp (printed a.class) (printed b.class))

abbrev pub one_more : ReportRow → ReportRow
one_more row = record row { count = row.count + 1 }

-- a line's row among rows in order: the row of its digest and class counts one more and keeps its hostgroup; where there is
-- none, the line's is put in its place
abbrev pub count_in : ReportRow → List ReportRow → List ReportRow
count_in new [] = new ∷ []
count_in new (row ∷ rows) = match_ordering (row_cmp new row) (new ∷ row ∷ rows) (one_more row ∷ rows) (row ∷ count_in new rows)

-- the report: line after line
abbrev pub report_of : List Rule → AuditAsk → (lines : List (List ℕ)) → List ReportRow
report_of rules ask lines = fold (λ rows line. count_in (row_of rules ask line) rows) [] lines
