use Rattle.desk_laws.proofs.Changed.{homes_so}
use Rattle.desk_laws.proofs.sessions.homes_have_rows.Goals as goal

pub returns : goal.returns
returns c = homes_so
