use Rattle.desk_laws.proofs.Moves.{sent_so}
use Rattle.desk_laws.proofs.questions.sent_stands.Goals as goal

pub returns : goal.returns
returns c = sent_so
