use Rattle.apart_cases.proofs.Kept.{could-come}
use Rattle.apart_cases.proofs.Places.{live-run}
use Rattle.apart_cases.proofs.prepared.executes_in_another_schema.Goals as goal

pub returns : goal.returns
returns c = λ terms past link n due text schema settings args tells runs other.
    other (live-run _ _ n due _ text schema settings args (could-come terms past _ tells).fits runs).schema_of
