use Rattle.router_promises.proofs.Saying.{said-log}
use Rattle.router_promises.proofs.said_log.Goals as goal

pub returns : goal.returns
returns c = λ terms log keeps. said-log terms log keeps.said keeps.tagged
