use Rattle.router_laws.proofs.OfDecisions.Router.{router_goes_on}
use Rattle.router_laws.proofs.decisions.routers.routers_go_on.Goals as goal

pub returns : goal.returns
returns c = λ service texts was is log e deeds t now roomy room router may ours waits judges goes opened.
    router_goes_on service log e deeds t now roomy room router may ours waits judges goes opened
