use Rattle.link_laws.proofs.Keeps.{closed_so}
use Rattle.link_laws.proofs.closed_stands.Goals as goal

pub returns : goal.returns
returns c = closed_so
