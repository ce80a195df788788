use Rattle.desk_laws.proofs.Leaves.{freed_so}
use Rattle.desk_laws.proofs.sessions.freed_stands.Goals as goal

pub returns : goal.returns
returns c = freed_so
