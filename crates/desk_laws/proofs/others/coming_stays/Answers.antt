use Rattle.desk_laws.proofs.Stays.{to_come_stays}
use Rattle.desk_laws.proofs.others.coming_stays.Goals as goal

pub returns : goal.returns
returns c = to_come_stays
