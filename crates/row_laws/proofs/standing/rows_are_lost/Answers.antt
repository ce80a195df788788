use Rattle.row_laws.proofs.Opening.{lost_so}
use Rattle.row_laws.proofs.standing.rows_are_lost.Goals as goal

pub returns : goal.returns
returns c = lost_so
