use Rattle.loss_cases.specs.Lost.{in_step, step_log}
use Rattle.loss_cases.proofs.Computed.{step_right}
use Rattle.loss_cases.proofs.lost_in_step.Goals as goal

pub returns : goal.returns
returns c = c.kept_by_test.ensures in_step step_log step_right
