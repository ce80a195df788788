use Rattle.router_laws.proofs.OfEntering.Losing.{going_routed}
use Rattle.router_laws.proofs.entering.leaves.leaves_going_router.Goals as goal

pub returns : goal.returns
returns law = λ service texts admin is log e t now roomy room link c links ordinal choices halt parting router may lost so ours told_ours others ruled since settled.
    going_routed law.leaves_going.ensures law.told_stands.ensures service texts admin is log e t now roomy room link c links ordinal choices halt parting router may lost so ours told_ours others ruled since settled
