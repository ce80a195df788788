use Rattle.step_laws.proofs.Stepping.{step_concerned}
use Rattle.step_laws.proofs.steps.step_is.Goals as goal

pub returns : goal.returns
returns c = λ setup plan tale e called rest single passes. step_concerned setup plan tale e called rest single passes
