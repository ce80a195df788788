use Rattle.std.proofs.Common.{sym, ◌∙◌}
use Rattle.router_promises.proofs.Refusals.{never}
use Rattle.core_promises.proofs.Done.{done-at}
use Rattle.core_promises.proofs.waiting.leaves_a_link_unnamed.Goals as goal

pub returns : goal.returns
returns c = λ terms before wait unnamed. never (sym (done-at terms before wait).named ∙ unnamed)
