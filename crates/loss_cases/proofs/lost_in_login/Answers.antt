use Rattle.loss_cases.specs.Lost.{in_login, login_log}
use Rattle.loss_cases.proofs.Computed.{login_right}
use Rattle.loss_cases.proofs.lost_in_login.Goals as goal

pub returns : goal.returns
returns c = c.kept_by_test.ensures in_login login_log login_right
