use Rattle.router_cases.specs.Worked.{decided, log, terms_with}
use Rattle.router_cases.proofs.Computed.{worked, worked_story}
use Rattle.router_cases.proofs.can_be_kept.Goals as goal

pub returns : goal.returns
returns c = record {
  story = worked_story;
  promises = record { decided = decided; keeps = λ stored. c.kept_by_test.ensures (terms_with stored) log (worked stored) };
}
