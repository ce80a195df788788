use Rattle.router_laws.proofs.OfDecisions.Gathering.{all_silent, silent_at}
use Rattle.router_laws.proofs.decisions.plans.plans_are_silent.Goals as goal

pub returns : goal.returns
returns c = record {
  each = λ d n log plan recorded of client going. silent_at d n log plan recorded of client going;
  tale = λ d n log setup codes plan recorded of. all_silent d n log setup codes plan recorded of;
}
