use Rattle.std.proofs.Common.{sym, ◌∙◌}
use Rattle.router_promises.proofs.Refusals.{none-some}
use Rattle.core_promises.proofs.Texts.{passed-as}
use Rattle.core_promises.proofs.judging.sends_what_is_refused.Goals as goal

pub returns : goal.returns
returns c = λ terms payload text why asks refused. none-some (sym (passed-as terms payload text asks).free ∙ refused)
