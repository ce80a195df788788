use Rattle.router_laws.proofs.OfDecisions.Listing.{is_tale_of}
use Rattle.router_laws.proofs.decisions.links.tales_follow.Goals as goal

pub returns : goal.returns
returns c = λ setup plan log. is_tale_of setup plan log
