use Rattle.shared_cases.proofs.Computed.{executed_so}
use Rattle.shared_cases.proofs.makes_executed_log.Goals as goal

pub returns : goal.returns
returns c = executed_so
