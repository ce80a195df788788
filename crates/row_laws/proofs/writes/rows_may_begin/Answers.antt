use Rattle.row_laws.proofs.Nexting.{begins_so}
use Rattle.row_laws.proofs.writes.rows_may_begin.Goals as goal

pub returns : goal.returns
returns c = begins_so
