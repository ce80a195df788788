use Rattle.row_laws.proofs.Sending.{begin_so}
use Rattle.row_laws.proofs.writes.rows_begin.Goals as goal

pub returns : goal.returns
returns c = λ setup codes plan tale l row tag count now stands offer offered within some inside next same begins.
    begin_so setup codes plan tale l row tag count now stands offer offered within some inside next same begins
