use Rattle.router_promises.proofs.Refusals.{account-of}
use Rattle.apart_cases.proofs.Kept.{could-come}
use Rattle.apart_cases.proofs.lent.sends_as_another.Goals as goal

pub returns : goal.returns
returns c = λ terms past link n due tells unpinned other. other (account-of _ _ n due _ (could-come terms past _ tells).fits unpinned)
