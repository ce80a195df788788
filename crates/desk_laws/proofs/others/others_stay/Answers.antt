use Rattle.desk_laws.proofs.Stays.{stays_apart}
use Rattle.desk_laws.proofs.others.others_stay.Goals as goal

pub returns : goal.returns
returns c = stays_apart
