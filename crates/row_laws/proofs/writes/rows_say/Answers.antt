use Rattle.row_laws.proofs.Sending.{login_so}
use Rattle.row_laws.proofs.writes.rows_say.Goals as goal

pub returns : goal.returns
returns c = λ setup codes plan tale l row tag count now stands offer offered within some outside fine.
    login_so setup codes plan tale l row tag count now stands offer offered within some outside fine
