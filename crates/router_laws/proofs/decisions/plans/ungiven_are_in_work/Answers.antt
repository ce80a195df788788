use Rattle.router_laws.proofs.OfDecisions.Working.{none_given, none_replied, ungiven}
use Rattle.router_laws.proofs.decisions.plans.ungiven_are_in_work.Goals as goal

pub returns : goal.returns
returns c = record {
  work = λ service g t given excepted stands up. ungiven service g t given excepted stands up;
  unreplied = λ service g t given excepted stands up. none_replied service g t given excepted stands up;
  none = λ g given none. none_given g given none;
}
