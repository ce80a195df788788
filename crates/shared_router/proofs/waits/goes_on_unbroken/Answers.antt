use Rattle.shared_router.proofs.Broken.{breaks_nobody}
use Rattle.shared_router.proofs.waits.goes_on_unbroken.Goals as goal

pub returns : goal.returns
returns c = λ fixed log numbered our. breaks_nobody fixed log numbered our
