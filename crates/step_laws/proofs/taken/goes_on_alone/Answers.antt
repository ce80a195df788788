use Rattle.step_laws.proofs.Taking.{called, passed}
use Rattle.step_laws.proofs.taken.goes_on_alone.Goals as goal

pub returns : goal.returns
returns c = record {
  called = λ setup plan view e client tale is. called setup plan view e tale client is;
  passed = λ setup plan view e client tale is. passed setup plan view e tale client is;
}
