use Rattle.row_laws.proofs.Returning.{taken_back_so}
use Rattle.row_laws.proofs.writes.rows_take_back.Goals as goal

pub returns : goal.returns
returns c = taken_back_so
