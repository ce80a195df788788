use Rattle.apart_cases.proofs.Kept.{could-come}
use Rattle.apart_cases.proofs.lent.resets_what_goes_on.Goals as goal

pub returns : goal.returns
returns c = λ terms past link n tells here. (could-come terms past _ tells).fits.left here
