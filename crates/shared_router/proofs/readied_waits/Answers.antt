use Rattle.shared_router.proofs.Readying.{readied_waits}
use Rattle.shared_router.proofs.readied_waits.Goals as goal

pub returns : goal.returns
returns c = λ k link r is. readied_waits k link r is
