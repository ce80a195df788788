use Rattle.router_promises.proofs.Refusals.{carried-by}
use Rattle.apart_cases.proofs.Kept.{could-come}
use Rattle.apart_cases.proofs.lent.lends_what_is_held.Goals as goal

pub returns : goal.returns
returns c = λ terms past link n other due tells carries apart. apart (carried-by _ _ n due _ other (could-come terms past _ tells).fits carries)
