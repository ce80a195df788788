use Rattle.router_laws.proofs.OfDecisions.Keeping.{recorded_then}
use Rattle.router_laws.proofs.decisions.records.decisions_are_recorded.Goals as goal

pub returns : goal.returns
returns c = λ d n log e deeds recorded alone. recorded_then d n log e deeds recorded alone
