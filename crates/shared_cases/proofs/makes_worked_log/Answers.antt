use Rattle.shared_cases.proofs.Computed.{worked_so}
use Rattle.shared_cases.proofs.makes_worked_log.Goals as goal

pub returns : goal.returns
returns c = worked_so
