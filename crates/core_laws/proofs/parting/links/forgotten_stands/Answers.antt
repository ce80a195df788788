use Rattle.core_laws.proofs.OfParting.Forgetting.{forgotten_so}
use Rattle.core_laws.proofs.parting.links.forgotten_stands.Goals as goal

pub returns : goal.returns
returns c = forgotten_so
