use Rattle.core_laws.proofs.OfEntry.Going.{safe_more}
use Rattle.core_laws.proofs.entry.safe.safe_goes_on.Goals as goal

pub returns : goal.returns
returns c = safe_more
