use Rattle.link_laws.proofs.Keeps.{named_so}
use Rattle.link_laws.proofs.named_stands.Goals as goal

pub returns : goal.returns
returns c = named_so
