use Rattle.row_laws.proofs.Opening.{freed_so}
use Rattle.row_laws.proofs.standing.rows_are_freed.Goals as goal

pub returns : goal.returns
returns c = freed_so
