use Rattle.step_laws.proofs.Sparing.{done_as_before}
use Rattle.step_laws.proofs.spared.as_before.Goals as goal

pub returns : goal.returns
returns c = λ setup plan old new link stays. done_as_before setup plan old new link stays
