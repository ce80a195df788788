use Rattle.desk_laws.proofs.Changed.{outlasts_so}
use Rattle.desk_laws.proofs.questions.outlasts_as_said.Goals as goal

pub returns : goal.returns
returns c = outlasts_so
