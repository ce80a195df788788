use Rattle.step_laws.proofs.Giving.{none_in, one_in}
use Rattle.step_laws.proofs.freed.frees_one.Goals as goal

pub returns : goal.returns
returns c = record {
  one = λ setup plan link tale there none. one_in setup plan link tale.links tale there none;
  none = λ setup plan tale none. none_in setup plan tale.links tale none;
}
