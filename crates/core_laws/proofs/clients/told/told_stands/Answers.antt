use Rattle.core_laws.proofs.OfClients.Telling.{stand_told}
use Rattle.core_laws.proofs.clients.told.told_stands.Goals as goal

pub returns : goal.returns
returns c = stand_told c.left_stands.ensures.ends c.same_stands.ensures
