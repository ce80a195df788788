use Rattle.step_laws.proofs.Telling.{told_rests}
use Rattle.step_laws.proofs.spared.telling_rests.Goals as goal

pub returns : goal.returns
returns c = λ setup plan tale e none. told_rests setup plan tale e none
