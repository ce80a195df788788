use Rattle.desk_laws.proofs.Working.{seat_so}
use Rattle.desk_laws.proofs.works.seats_stand.Goals as goal

pub returns : goal.returns
returns c = seat_so
