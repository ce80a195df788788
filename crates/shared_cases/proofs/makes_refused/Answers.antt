use Rattle.shared_cases.proofs.Computed.{refused_so}
use Rattle.shared_cases.proofs.makes_refused.Goals as goal

pub returns : goal.returns
returns c = refused_so
