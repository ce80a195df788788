use Rattle.router_laws.proofs.OfDecisions.Router.{router_of_none}
use Rattle.router_laws.proofs.decisions.routers.first_router.Goals as goal

pub returns : goal.returns
returns c = λ service texts admin begins roomy unloaded none unnoted.
    router_of_none service texts admin begins roomy unloaded none unnoted
    (λ setup codes plan served room ends. c.first_stands.ensures service.setup setup codes plan roomy served room ends)
