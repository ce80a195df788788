use Rattle.router_laws.proofs.OfDecisions.Keeping.{first_so}
use Rattle.router_laws.proofs.decisions.records.first_recorded.Goals as goal

pub returns : goal.returns
returns c = λ service. first_so service
