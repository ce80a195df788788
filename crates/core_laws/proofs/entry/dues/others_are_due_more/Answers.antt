use Rattle.core_laws.proofs.OfEntry.Parting.{left_grown, row_told, row_within}
use Rattle.core_laws.proofs.entry.dues.others_are_due_more.Goals as goal

pub returns : goal.returns
returns c = record { grown = left_grown; within = row_within; told = row_told }
