use Rattle.shared_cases.proofs.Computed.{step_so}
use Rattle.shared_cases.proofs.makes_step.Goals as goal

pub returns : goal.returns
returns c = step_so
