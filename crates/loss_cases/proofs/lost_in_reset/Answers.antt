use Rattle.loss_cases.specs.Ending.{in_reset, reset_log}
use Rattle.loss_cases.proofs.Computed.{reset_right}
use Rattle.loss_cases.proofs.lost_in_reset.Goals as goal

pub returns : goal.returns
returns c = c.kept_by_test.ensures in_reset reset_log reset_right
