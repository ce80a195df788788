use Rattle.shared_router.proofs.Ended.{ends-along}
use Rattle.shared_router.proofs.departing.ends_right.Goals as goal

pub returns : goal.returns
returns c = λ fixed log numbered. ends-along fixed numbered log
