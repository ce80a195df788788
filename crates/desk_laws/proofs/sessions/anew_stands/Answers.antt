use Rattle.desk_laws.proofs.Leaves.{anew_so}
use Rattle.desk_laws.proofs.sessions.anew_stands.Goals as goal

pub returns : goal.returns
returns c = anew_so
