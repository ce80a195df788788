use Rattle.shared_cases.proofs.Computed.{spoilt_so}
use Rattle.shared_cases.proofs.makes_spoilt.Goals as goal

pub returns : goal.returns
returns c = spoilt_so
