use Rattle.step_cases.specs.Stepped as stepped
use Rattle.step_cases.proofs.Computed.{stepped_right}
use Rattle.step_cases.proofs.steps_are_kept.Goals as goal

pub returns : goal.returns
returns c = c.kept_by_test.ensures stepped.terms stepped.log stepped_right
