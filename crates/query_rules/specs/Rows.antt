-- The rows of the table of rules.
use Rattle.std.specs.Prelude.{Bool, ◌&&◌, ◌||◌, is_some, is_none}
use Rattle.query_rules.specs.declared.row.RuleRow.{RuleRow}

-- there is a template, but no pattern, or one that has to find nothing
abbrev pub replaces_nothing : RuleRow → Bool
replaces_nothing row = is_some row.replace_pattern && (is_none row.match_pattern || row.negate_match_pattern)
