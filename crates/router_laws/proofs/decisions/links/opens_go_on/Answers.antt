use Rattle.router_laws.proofs.OfDecisions.Listing.{open_with}
use Rattle.router_laws.proofs.decisions.links.opens_go_on.Goals as goal

pub returns : goal.returns
returns c = λ log e l. open_with log e l
