use Rattle.router_laws.proofs.OfEntering.Losing.{again_routed}
use Rattle.router_laws.proofs.entering.leaves.leaves_again_router.Goals as goal

pub returns : goal.returns
returns law = λ service texts admin log e t now roomy link c router may lost so.
    again_routed law.leaves_again.ensures service texts admin log e t now roomy link c router may lost so
