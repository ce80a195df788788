use Rattle.router_laws.proofs.OfDecisions.Tallying.{counts_then}
use Rattle.router_laws.proofs.decisions.counting.counts_go_on.Goals as goal

pub returns : goal.returns
returns c = λ setup plan d n log e deeds recorded may counts takes begins.
    counts_then setup plan d n log e deeds recorded counts may takes begins
