use Rattle.shared_router.proofs.Gathering.{rest_of_parts}
use Rattle.shared_router.proofs.waits.rests_by_parts.Goals as goal

pub returns : goal.returns
returns c = λ terms log now calm read told says unbroken whole none done. rest_of_parts terms log now calm read told says unbroken whole none done
