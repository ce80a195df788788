use Rattle.row_laws.proofs.Spelling.{step_so}
use Rattle.row_laws.proofs.readied.steps_are_readied.Goals as goal

pub returns : goal.returns
returns c = step_so
