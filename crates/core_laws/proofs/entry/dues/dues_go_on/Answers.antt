use Rattle.core_laws.proofs.OfEntry.Writing.{all_written, row_writes}
use Rattle.core_laws.proofs.entry.dues.dues_go_on.Goals as goal

pub returns : goal.returns
returns c = record { each = all_written; by_row = row_writes }
