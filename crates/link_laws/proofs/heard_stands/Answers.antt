use Rattle.link_laws.proofs.Keeps.{heard_so}
use Rattle.link_laws.proofs.heard_stands.Goals as goal

pub returns : goal.returns
returns c = heard_so
