use Rattle.core_laws.proofs.OfEntry.Resting.{over_more}
use Rattle.core_laws.proofs.entry.entries.overs_go_on.Goals as goal

pub returns : goal.returns
returns c = over_more
