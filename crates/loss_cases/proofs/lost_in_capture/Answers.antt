use Rattle.loss_cases.specs.Ending.{in_capture, capture_log}
use Rattle.loss_cases.proofs.Computed.{capture_right}
use Rattle.loss_cases.proofs.lost_in_capture.Goals as goal

pub returns : goal.returns
returns c = c.kept_by_test.ensures in_capture capture_log capture_right
