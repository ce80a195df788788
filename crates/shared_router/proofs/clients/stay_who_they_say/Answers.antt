use Rattle.shared_router.proofs.Growing.{who_kept}
use Rattle.shared_router.proofs.clients.stay_who_they_say.Goals as goal

pub returns : goal.returns
returns c = λ fixed log who. who_kept fixed log who
