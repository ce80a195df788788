use Rattle.desk_laws.proofs.Hears.{heard_so}
use Rattle.desk_laws.proofs.answers.steps_are_heard.Goals as goal

pub returns : goal.returns
returns c = heard_so
