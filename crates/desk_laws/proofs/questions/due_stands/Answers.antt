use Rattle.desk_laws.proofs.Moves.{due_so}
use Rattle.desk_laws.proofs.questions.due_stands.Goals as goal

pub returns : goal.returns
returns c = due_so
