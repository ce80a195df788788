use Rattle.step_laws.proofs.Taking.{none_go, one_goes}
use Rattle.step_laws.proofs.taken.goes_on_one.Goals as goal

pub returns : goal.returns
returns c = record {
  one = λ setup plan view e client tale seated single passes. one_goes setup plan view e client tale seated single passes;
  none = λ setup plan view e tale passes. none_go setup plan view e tale passes;
}
