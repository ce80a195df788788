-- A report as it is printed.
use Rattle.std.specs.Prelude.{ℕ, List, ◌++◌, codes, flat_map}
use Rattle.std.specs.Fmt.{decimal}
use Rattle.pin_classifier.specs.Kinds.{printed}
use Rattle.audit_report.specs.declared.row.ReportRow.{ReportRow}

-- <count> <class> <hostgroup> <digest>
unfoldable pub line_of : ReportRow → List ℕ
line_of row = decimal row.count ++ (codes " " ++ (printed row.class ++ (codes " " ++ (decimal row.hostgroup.0 ++ (codes " " ++ (row.digest ++ codes "\n"))))))

abbrev pub report_text : List ReportRow → List ℕ
report_text rows = flat_map line_of rows
