use Rattle.shared_cases.proofs.Computed.{ended_so}
use Rattle.shared_cases.proofs.makes_ended_log.Goals as goal

pub returns : goal.returns
returns c = ended_so
