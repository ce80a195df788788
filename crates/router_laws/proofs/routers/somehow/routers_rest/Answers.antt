use Rattle.router_laws.proofs.OfRouters.Fitting.{somehow}
use Rattle.router_laws.proofs.routers.somehow.routers_rest.Goals as goal

pub returns : goal.returns
returns c = λ service texts admin log t roomy router. somehow service log t roomy router
