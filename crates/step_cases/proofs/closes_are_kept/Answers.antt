use Rattle.step_cases.specs.Again as again
use Rattle.step_cases.proofs.Computed.{again_right}
use Rattle.step_cases.proofs.closes_are_kept.Goals as goal

pub returns : goal.returns
returns c = c.kept_by_test.ensures again.terms again.log again_right
