use Rattle.core_laws.proofs.OfParting.Reseating.{seated_so}
use Rattle.core_laws.proofs.parting.leaving.left_is_seated.Goals as goal

pub returns : goal.returns
returns c = seated_so
