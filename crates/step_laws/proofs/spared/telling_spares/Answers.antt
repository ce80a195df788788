use Rattle.step_laws.proofs.Telling.{told_spares}
use Rattle.step_laws.proofs.spared.telling_spares.Goals as goal

pub returns : goal.returns
returns c = λ setup plan tale e. told_spares setup plan tale e
