use Rattle.apart_cases.proofs.Kept.{could-come, lent-to}
use Rattle.apart_cases.proofs.lent.lends_what_is_lent.Goals as goal

pub returns : goal.returns
returns c = λ terms past link n other due tells carries apart. apart (lent-to _ _ n other due _ (could-come terms past _ tells).fits carries)
