use Rattle.apart_cases.proofs.Kept.{could-come}
use Rattle.apart_cases.proofs.Places.{live-run, not-none}
use Rattle.apart_cases.proofs.prepared.executes_what_isnt_there.Goals as goal

pub returns : goal.returns
returns c = λ terms past link n due text schema settings args tells runs none.
    not-none _ _ (live-run _ _ n due _ text schema settings args (could-come terms past _ tells).fits runs).there none
