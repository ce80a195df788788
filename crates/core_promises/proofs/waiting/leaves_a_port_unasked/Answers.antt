use Rattle.std.proofs.Common.{sym, ◌∙◌}
use Rattle.router_promises.proofs.Refusals.{never}
use Rattle.core_promises.proofs.Done.{done-at}
use Rattle.core_promises.proofs.waiting.leaves_a_port_unasked.Goals as goal

pub returns : goal.returns
returns c = λ terms before port wait unasked. never (sym ((done-at terms before wait).accepted port) ∙ unasked)
