use Rattle.router_laws.proofs.OfDecisions.Router.{changed}
use Rattle.router_laws.proofs.decisions.routers.routers_change.Goals as goal

pub returns : goal.returns
returns c = λ service texts admin log t now roomy room router rests open_just.
    changed service log t now roomy room router rests open_just
