use Rattle.desk_laws.proofs.Working.{new_so}
use Rattle.desk_laws.proofs.works.new_stands.Goals as goal

pub returns : goal.returns
returns c = new_so
