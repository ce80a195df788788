use Rattle.row_laws.proofs.Sending.{goes_so}
use Rattle.row_laws.proofs.writes.rows_write_on.Goals as goal

pub returns : goal.returns
returns c = λ setup codes plan tale l row tag count now stands offer offered within some inside none.
    goes_so setup codes plan tale l row tag count now stands offer offered within some inside none
