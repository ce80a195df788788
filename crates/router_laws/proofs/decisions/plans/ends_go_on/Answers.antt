use Rattle.router_laws.proofs.OfDecisions.Gathering.{over_then}
use Rattle.router_laws.proofs.decisions.plans.ends_go_on.Goals as goal

pub returns : goal.returns
returns c = λ d n log e deeds setup codes plan recorded of. over_then d n log e deeds setup codes plan recorded of
