use Rattle.desk_laws.proofs.Hears.{answered_so}
use Rattle.desk_laws.proofs.answers.answers_stand.Goals as goal

pub returns : goal.returns
returns c = answered_so
