use Rattle.shared_cases.proofs.Computed.{nowhere_so}
use Rattle.shared_cases.proofs.makes_nowhere.Goals as goal

pub returns : goal.returns
returns c = nowhere_so
