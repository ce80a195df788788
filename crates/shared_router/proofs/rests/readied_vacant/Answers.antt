use Rattle.shared_router.proofs.Vacant.{readied_vacant}
use Rattle.shared_router.proofs.rests.readied_vacant.Goals as goal

pub returns : goal.returns
returns c = λ k link r is. readied_vacant k link r is
