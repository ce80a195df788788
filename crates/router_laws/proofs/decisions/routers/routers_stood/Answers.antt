use Rattle.router_laws.proofs.OfDecisions.Router.{stood_before}
use Rattle.router_laws.proofs.decisions.routers.routers_stood.Goals as goal

pub returns : goal.returns
returns c = λ service texts admin log e t roomy deeds setup codes plan router may of fits heard.
    stood_before service log e t roomy deeds setup codes plan router may of fits heard
