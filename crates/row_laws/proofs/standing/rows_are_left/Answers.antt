use Rattle.row_laws.proofs.Opening.{left_so}
use Rattle.row_laws.proofs.standing.rows_are_left.Goals as goal

pub returns : goal.returns
returns c = left_so
