use Rattle.router_promises.proofs.Refusals.{kept-back}
use Rattle.apart_cases.proofs.Kept.{could-come}
use Rattle.apart_cases.proofs.lent.gives_back_what_is_held.Goals as goal

pub returns : goal.returns
returns c = λ terms past link n tells carries pinned here. kept-back _ _ n (could-come terms past _ tells) carries pinned here
