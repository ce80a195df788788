use Rattle.shared_router.proofs.Judging.{judged_later}
use Rattle.shared_router.proofs.is_judged.Goals as goal

pub returns : goal.returns
returns c = λ fixed w client message bare tried plan numbered fresh agrees. judged_later fixed w client message bare tried numbered plan fresh agrees
