use Rattle.router_laws.proofs.OfDecisions.Forcing.{loads}
use Rattle.router_laws.proofs.decisions.routers.routers_load.Goals as goal

pub returns : goal.returns
returns c = loads
