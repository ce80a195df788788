use Rattle.router_laws.proofs.OfDecisions.Gathering.{all_kept, still_kept}
use Rattle.router_laws.proofs.decisions.plans.answers_are_kept.Goals as goal

pub returns : goal.returns
returns c = record {
  so = λ g log e deeds so unreplied. all_kept g log e deeds so unreplied;
  still = λ g still. still_kept g still;
}
