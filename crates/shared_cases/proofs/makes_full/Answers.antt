use Rattle.shared_cases.proofs.Computed.{full_so}
use Rattle.shared_cases.proofs.makes_full.Goals as goal

pub returns : goal.returns
returns c = full_so
