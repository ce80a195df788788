use Rattle.desk_laws.proofs.Stays.{stays_past}
use Rattle.desk_laws.proofs.others.parted_stays.Goals as goal

pub returns : goal.returns
returns c = stays_past
