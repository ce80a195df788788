use Rattle.router_laws.proofs.OfRouters.Fitting.{linked, somehow}
use Rattle.router_laws.proofs.routers.somehow.routers_are_linked.Goals as goal
use Rattle.router_laws.specs.routers.Somehow.{RestsSomehow}

pub returns : goal.returns
returns c = λ service texts admin log t roomy router.
    let so : RestsSomehow service.setup log t roomy = somehow service log t roomy router in
    λ l client numbered. linked service.setup so.g t so.rests.stands l client numbered
