use Rattle.apart_cases.proofs.Kept.{who-at}
use Rattle.apart_cases.proofs.told.logs_in_as_another.Goals as goal

pub returns : goal.returns
returns c = λ terms before more k client switched response id rest login keeps within is says logs_in other.
    other (who-at terms before more k client switched response id rest login keeps within is says logs_in)
