use Rattle.link_laws.proofs.Keeps.{new_so}
use Rattle.link_laws.proofs.new_stands.Goals as goal

pub returns : goal.returns
returns c = new_so
