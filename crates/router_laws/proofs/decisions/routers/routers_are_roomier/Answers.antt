use Rattle.router_laws.proofs.OfDecisions.Router.{grows_roomier}
use Rattle.router_laws.proofs.decisions.routers.routers_are_roomier.Goals as goal

pub returns : goal.returns
returns c = λ service texts admin log t roomy room router more. grows_roomier service log t roomy room router more
