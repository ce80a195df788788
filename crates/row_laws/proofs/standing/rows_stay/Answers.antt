use Rattle.row_laws.proofs.Opening.{stays_so}
use Rattle.row_laws.proofs.standing.rows_stay.Goals as goal

pub returns : goal.returns
returns c = stays_so
