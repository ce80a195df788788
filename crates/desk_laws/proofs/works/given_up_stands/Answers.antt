use Rattle.desk_laws.proofs.Working.{given_up_so}
use Rattle.desk_laws.proofs.works.given_up_stands.Goals as goal

pub returns : goal.returns
returns c = given_up_so
