use Rattle.step_laws.proofs.Stepping.{step_one, step_parting}
use Rattle.step_laws.proofs.steps.step_of_one.Goals as goal

pub returns : goal.returns
returns c = record {
  one = λ setup plan tale e client ended freed last is behind. step_one setup plan tale e client ended freed last is behind;
  parting = λ setup plan tale e client ended freed is. step_parting setup plan tale e client ended freed is;
}
