use Rattle.shared_router.proofs.Sufficing.{shared_so}
use Rattle.shared_router.proofs.waits.shares_enough.Goals as goal

pub returns : goal.returns
returns c = λ terms log now key enough idle. shared_so terms log now key enough idle
