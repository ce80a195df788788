use Rattle.router_laws.proofs.OfDecisions.Noting.{notes}
use Rattle.router_laws.proofs.decisions.routers.routers_note.Goals as goal

pub returns : goal.returns
returns _ = λ service old new admin log t roomy c one router noted works now. notes service old new admin log t roomy c one router noted works now
