use Rattle.step_laws.proofs.Ordering.{named_like}
use Rattle.step_laws.proofs.freed.frees_named.Goals as goal

pub returns : goal.returns
returns c = λ setup plan links tale all. named_like setup plan links tale all
