use Rattle.shared_router.proofs.Singled.{one_along}
use Rattle.shared_router.proofs.gives_up.gives_up_one_for_a_step.Goals as goal

pub returns : goal.returns
returns c = λ fixed log numbered. one_along fixed numbered log
