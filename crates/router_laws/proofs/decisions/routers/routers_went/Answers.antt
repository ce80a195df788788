use Rattle.router_laws.proofs.OfDecisions.Router.{fits_before, plan_before}
use Rattle.router_laws.proofs.decisions.routers.routers_went.Goals as goal

pub returns : goal.returns
returns c = record {
  plans = λ d n log e deeds plan recorded of. plan_before d n log e deeds plan recorded of;
  fits = λ d n log e deeds setup codes plan default recorded heard fits. fits_before d n log e deeds setup codes plan default recorded heard fits;
}
