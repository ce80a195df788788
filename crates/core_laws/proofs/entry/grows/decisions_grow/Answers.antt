use Rattle.core_laws.proofs.OfEntry.Deciding.{all_before, of_before}
use Rattle.core_laws.proofs.entry.grows.decisions_grow.Goals as goal

pub returns : goal.returns
returns c = record { plans = of_before; clients = all_before }
