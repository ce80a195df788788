use Rattle.desk_laws.proofs.Moves.{lent_so}
use Rattle.desk_laws.proofs.questions.lent_stands.Goals as goal

pub returns : goal.returns
returns c = lent_so
