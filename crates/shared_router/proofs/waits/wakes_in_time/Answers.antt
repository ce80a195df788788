use Rattle.shared_router.proofs.Waking.{wakes_kept}
use Rattle.shared_router.proofs.waits.wakes_in_time.Goals as goal

pub returns : goal.returns
returns c = λ fixed log numbered our. wakes_kept fixed numbered log our
