use Rattle.router_laws.proofs.OfDecisions.Gathering.{plans_so}
use Rattle.router_laws.proofs.decisions.plans.plans_are_so.Goals as goal

pub returns : goal.returns
returns c = λ default d n log e deeds setup codes plan recorded may of fits counts told ungiven.
    plans_so default d n log e deeds setup codes plan recorded may of fits counts told ungiven
