use Rattle.shared_cases.proofs.Computed.{login_so}
use Rattle.shared_cases.proofs.makes_login.Goals as goal

pub returns : goal.returns
returns c = login_so
