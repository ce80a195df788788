use Rattle.shared_router.proofs.Quitting.{routes-along}
use Rattle.shared_router.proofs.is_routed.Goals as goal

pub returns : goal.returns
returns c = λ fixed log numbered our. routes-along fixed numbered log (c.judges_each.ensures fixed log numbered our)
