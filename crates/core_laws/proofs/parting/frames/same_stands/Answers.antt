use Rattle.core_laws.proofs.OfParting.Same.{stands_same}
use Rattle.core_laws.proofs.parting.frames.same_stands.Goals as goal

pub returns : goal.returns
returns c = λ service g t other is same. stands_same g t other same service is
