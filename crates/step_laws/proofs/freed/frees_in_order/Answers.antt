use Rattle.step_laws.proofs.Orderly.{freed_in_order}
use Rattle.step_laws.proofs.freed.frees_in_order.Goals as goal

pub returns : goal.returns
returns c = λ setup plan place links tale all whole some. freed_in_order setup plan place links tale all whole some
