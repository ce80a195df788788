use Rattle.step_laws.proofs.Stepping.{parting_links, parting_rests, parting_spares}
use Rattle.step_laws.proofs.steps.parting_rests.Goals as goal

pub returns : goal.returns
returns c = record {
  rests = λ setup plan view e called ends clients ended tale single all leaves rest.
      parting_rests setup plan view e called ends single clients ended tale all leaves rest;
  spares = λ setup plan view e called ends clients ended tale single all leaves.
      parting_spares setup plan view e called ends single clients ended tale all leaves;
  links = λ setup plan view e called clients ended tale single all. parting_links setup plan view e called called single clients ended tale all;
}
