use Rattle.shared_router.proofs.Reasons.{given_along}
use Rattle.shared_router.proofs.gives_up.gives_up_for_a_cause.Goals as goal

pub returns : goal.returns
returns c = λ fixed log numbered our. given_along fixed numbered log our
