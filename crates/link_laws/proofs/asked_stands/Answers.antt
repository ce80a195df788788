use Rattle.link_laws.proofs.Keeps.{asked_so}
use Rattle.link_laws.proofs.asked_stands.Goals as goal

pub returns : goal.returns
returns c = asked_so
