use Rattle.router_laws.proofs.OfDecisions.Gathering.{all_still, uneventful}
use Rattle.router_laws.proofs.decisions.plans.quiet_plans.Goals as goal

pub returns : goal.returns
returns c = record {
  uneventful = λ g log e deeds so none. uneventful g log e deeds so none;
  still = λ g log e deeds so none. all_still g log e deeds so none;
}
