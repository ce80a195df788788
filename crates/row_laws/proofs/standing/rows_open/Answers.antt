use Rattle.row_laws.proofs.Opening.{opened_so}
use Rattle.row_laws.proofs.standing.rows_open.Goals as goal

pub returns : goal.returns
returns c = opened_so
