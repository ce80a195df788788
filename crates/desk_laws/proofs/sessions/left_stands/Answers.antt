use Rattle.desk_laws.proofs.Leaves.{left_so}
use Rattle.desk_laws.proofs.sessions.left_stands.Goals as goal

pub returns : goal.returns
returns c = left_so
