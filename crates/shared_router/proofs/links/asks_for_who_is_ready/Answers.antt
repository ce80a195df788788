use Rattle.shared_router.proofs.Readily.{readied_asks}
use Rattle.shared_router.proofs.links.asks_for_who_is_ready.Goals as goal

pub returns : goal.returns
returns c = λ k link r at ready. readied_asks k link r at ready
