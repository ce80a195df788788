use Rattle.apart_cases.proofs.Kept.{front-at}
use Rattle.apart_cases.proofs.told.tells_other_bytes.Goals as goal

pub returns : goal.returns
returns c = λ terms before more k client keeps within is other. other (front-at terms before more k client keeps within is)
