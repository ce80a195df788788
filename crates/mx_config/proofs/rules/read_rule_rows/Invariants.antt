use Rattle.std.proofs.Common.{◌≡◌, ℕ, Bool, List, [], length}
use Rattle.mx_config.specs.Lawful.{EachBehind, IsLawfulRule}
use Rattle.mx_config.specs.RuleRows.{rule_row}
use Rattle.mx_config.specs.Values.{Agrees}
use Rattle.mx_config.proofs.RowSteps.{Reads}
use Rattle.mx_config.proofs.rules.read_rule_rows.Given as goal

abbrev pub invariant-loop-value : goal.invariant-loop-value
invariant-loop-value l = record {
  counted : length l.rules ≡ l.value-index;
  reads : (is_pattern : List ℕ → Bool) → Agrees is_pattern → Reads (rule_row is_pattern) l.items l.value-index l.rules;
  lawful : EachBehind IsLawfulRule [] l.rules;
}
