use Rattle.shared_cases.proofs.Computed.{late_so}
use Rattle.shared_cases.proofs.makes_late.Goals as goal

pub returns : goal.returns
returns c = late_so
