use Rattle.core_laws.proofs.OfParting.Same.{known_so}
use Rattle.core_laws.proofs.parting.frames.clients_are_known.Goals as goal

pub returns : goal.returns
returns c = known_so
