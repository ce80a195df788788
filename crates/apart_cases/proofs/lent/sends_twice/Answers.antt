use Rattle.std.proofs.Common.{sym, ◌∙◌}
use Rattle.router_promises.proofs.Refusals.{none-some}
use Rattle.apart_cases.proofs.Kept.{could-come}
use Rattle.apart_cases.proofs.lent.sends_twice.Goals as goal

pub returns : goal.returns
returns c = λ terms past link other n due tells carried. none-some (sym (could-come terms past _ tells).fits.unsent ∙ carried)
