use Rattle.shared_router.proofs.Sparing.{are_read}
use Rattle.shared_router.proofs.waits.reads_all.Goals as goal

pub returns : goal.returns
returns c = λ fixed log numbered our. are_read fixed log numbered our
