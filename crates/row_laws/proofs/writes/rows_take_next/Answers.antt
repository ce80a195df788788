use Rattle.row_laws.proofs.Nexting.{next_so}
use Rattle.row_laws.proofs.writes.rows_take_next.Goals as goal

pub returns : goal.returns
returns c = next_so
