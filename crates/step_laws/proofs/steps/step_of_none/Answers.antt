use Rattle.step_laws.proofs.Stepping.{step_none, step_rests}
use Rattle.step_laws.proofs.steps.step_of_none.Goals as goal

pub returns : goal.returns
returns c = record {
  none = λ setup plan tale e ended freed last is behind. step_none setup plan tale e ended freed last is behind;
  rests = λ setup plan tale e freed is. step_rests setup plan tale e freed is;
}
