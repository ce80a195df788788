use Rattle.loss_cases.specs.Lost.{in_work, work_log}
use Rattle.loss_cases.proofs.Computed.{work_right}
use Rattle.loss_cases.proofs.lost_in_work.Goals as goal

pub returns : goal.returns
returns c = c.kept_by_test.ensures in_work work_log work_right
