use Rattle.shared_cases.proofs.Computed.{reset_so}
use Rattle.shared_cases.proofs.makes_reset.Goals as goal

pub returns : goal.returns
returns c = reset_so
