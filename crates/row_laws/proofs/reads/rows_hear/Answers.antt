use Rattle.row_laws.proofs.Replying.{hear_so}
use Rattle.row_laws.proofs.reads.rows_hear.Goals as goal

pub returns : goal.returns
returns c = hear_so
