use Rattle.shared_router.proofs.Readying.{readied_near}
use Rattle.shared_router.proofs.readied_near.Goals as goal

pub returns : goal.returns
returns c = λ k link r is. readied_near k link r is
