use Rattle.desk_laws.proofs.Stays.{sessions_apart}
use Rattle.desk_laws.proofs.others.strangers_stay.Goals as goal

pub returns : goal.returns
returns c = sessions_apart
