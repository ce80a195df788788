use Rattle.shared_cases.proofs.Computed.{capture_so}
use Rattle.shared_cases.proofs.makes_capture.Goals as goal

pub returns : goal.returns
returns c = capture_so
