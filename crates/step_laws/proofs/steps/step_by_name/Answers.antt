use Rattle.step_laws.proofs.Stepping.{exactly, likewise}
use Rattle.step_laws.proofs.steps.step_by_name.Goals as goal

pub returns : goal.returns
returns c = record {
  exactly = λ setup plan tale e by called is first behind. exactly setup plan tale e by called is.single is.passes is.calls is.ends first behind;
  likewise = λ setup plan tale e by called is first behind. likewise setup plan tale e by called is.single is.passes is.calls is.ends first behind;
}
