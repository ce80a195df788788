use Rattle.shared_router.proofs.Working.{works_along}
use Rattle.shared_router.proofs.waits.works_on_what_is_wished.Goals as goal

pub returns : goal.returns
returns c = λ fixed log numbered our. works_along fixed numbered log our
