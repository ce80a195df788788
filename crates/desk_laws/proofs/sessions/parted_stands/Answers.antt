use Rattle.desk_laws.proofs.Leaves.{parted_so}
use Rattle.desk_laws.proofs.sessions.parted_stands.Goals as goal

pub returns : goal.returns
returns c = parted_so
