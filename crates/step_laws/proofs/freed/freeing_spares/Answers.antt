use Rattle.step_laws.proofs.Giving.{none_left, once_done, other_done}
use Rattle.step_laws.proofs.Likewise.{named_rests}
use Rattle.step_laws.proofs.freed.freeing_spares.Goals as goal

pub returns : goal.returns
returns c = record {
  others = λ setup plan tale link other apart. other_done setup plan tale link other apart;
  itself = λ setup plan tale link. once_done setup plan tale link;
  all = λ setup plan tale. none_left setup plan tale;
  named = λ setup plan links tale all. named_rests setup plan links tale all;
}
