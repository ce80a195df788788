use Rattle.core_tables.specs.Parting.{lost_in, unlinked}
use Rattle.router_laws.proofs.OfLinks.Saying.{lost_again}
use Rattle.router_laws.proofs.links.farewell.lost_closes_router.Goals as goal

pub returns : goal.returns
returns c = λ service texts admin log t x roomy room l router rooms may lost follow.
    c.closes_router.ensures service texts admin log t (unlinked l (lost_in l x)) roomy room l router follow rooms (lost_again l room t x may lost)
