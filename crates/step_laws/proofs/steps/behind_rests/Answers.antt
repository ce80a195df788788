use Rattle.step_laws.proofs.Stepping.{behind_rests, last_links}
use Rattle.step_laws.proofs.steps.behind_rests.Goals as goal

pub returns : goal.returns
returns c = record {
  rests = λ setup plan tale e by called is rest. behind_rests setup plan tale e by called is.single is.passes is.calls is.ends rest;
  links = λ setup plan tale e by called is. last_links setup plan tale e by called is.single is.passes is.calls is.ends;
}
