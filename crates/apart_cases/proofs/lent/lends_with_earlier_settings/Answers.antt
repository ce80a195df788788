use Rattle.router_promises.proofs.Refusals.{placed}
use Rattle.apart_cases.proofs.Kept.{could-come}
use Rattle.apart_cases.proofs.lent.lends_with_earlier_settings.Goals as goal

pub returns : goal.returns
returns c = λ terms past link n due tells other. other (placed _ _ n due _ (could-come terms past _ tells).fits).settings
