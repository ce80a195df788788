use Rattle.router_laws.proofs.OfDecisions.Staying.{counts_kept}
use Rattle.router_laws.proofs.decisions.counting.counts_stay.Goals as goal

pub returns : goal.returns
returns c = λ setup plan d n log e deeds recorded may of counts is none begins.
    counts_kept setup plan d n log e deeds recorded may of counts is none begins
