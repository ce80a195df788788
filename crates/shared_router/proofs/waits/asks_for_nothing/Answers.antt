use Rattle.shared_router.proofs.Finishing.{asks_nothing}
use Rattle.shared_router.proofs.waits.asks_for_nothing.Goals as goal

pub returns : goal.returns
returns c = λ fixed log numbered our. asks_nothing fixed numbered log our
