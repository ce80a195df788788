use Rattle.apart_cases.proofs.Kept.{front-at, no-longer}
use Rattle.apart_cases.proofs.told.tells_more_than_is_due.Goals as goal

pub returns : goal.returns
returns c = λ terms before more k client byte bytes keeps within is longer.
    no-longer _ _ byte bytes (front-at terms before more k client keeps within is) longer
