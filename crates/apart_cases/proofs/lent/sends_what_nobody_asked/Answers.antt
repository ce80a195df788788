use Rattle.apart_cases.proofs.Kept.{could-come}
use Rattle.apart_cases.proofs.lent.sends_what_nobody_asked.Goals as goal

pub returns : goal.returns
returns c = λ terms past link n due tells other. other (could-come terms past _ tells).fits.is_due
