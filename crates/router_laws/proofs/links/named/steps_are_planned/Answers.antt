use Rattle.router_laws.proofs.OfLinks.Planning.{planned_so}
use Rattle.router_laws.proofs.links.named.steps_are_planned.Goals as goal

pub returns : goal.returns
returns c = λ service g t l server offer stands there lends planned. planned_so service g t l server offer stands there lends planned
