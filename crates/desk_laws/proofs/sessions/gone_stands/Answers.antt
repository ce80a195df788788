use Rattle.desk_laws.proofs.Leaves.{gone_so}
use Rattle.desk_laws.proofs.sessions.gone_stands.Goals as goal

pub returns : goal.returns
returns c = gone_so
