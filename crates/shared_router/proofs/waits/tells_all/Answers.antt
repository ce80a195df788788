use Rattle.shared_router.proofs.Attending.{are_told}
use Rattle.shared_router.proofs.waits.tells_all.Goals as goal

pub returns : goal.returns
returns c = λ fixed log numbered our dues. are_told fixed log numbered our dues
