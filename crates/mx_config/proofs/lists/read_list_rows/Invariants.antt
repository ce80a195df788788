use Rattle.mx_config.specs.Lists.{list_row}
use Rattle.mx_config.proofs.RowSteps.{Reads}
use Rattle.mx_config.proofs.lists.read_list_rows.Given as goal

abbrev pub invariant-loop-value : goal.invariant-loop-value
invariant-loop-value l = Reads list_row l.items l.value-index l.rows
