use Rattle.router_laws.proofs.OfEntering.Losing.{at_once_routed}
use Rattle.router_laws.proofs.entering.leaves.leaves_at_once_router.Goals as goal

pub returns : goal.returns
returns law = λ service texts admin log e t now roomy room link c links router may lost so others.
    at_once_routed law.leaves_at_once.ensures service texts admin log e t now roomy room link c links router may lost so others
