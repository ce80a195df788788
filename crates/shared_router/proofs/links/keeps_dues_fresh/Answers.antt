use Rattle.shared_router.proofs.Freshly.{fresh_at}
use Rattle.shared_router.proofs.links.keeps_dues_fresh.Goals as goal

pub returns : goal.returns
returns c = λ fixed log our. fresh_at fixed log our
