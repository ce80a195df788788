use Rattle.core_laws.proofs.OfEntry.Writing.{writes_due}
use Rattle.core_laws.proofs.entry.dues.dues_are_written.Goals as goal

pub returns : goal.returns
returns c = writes_due
