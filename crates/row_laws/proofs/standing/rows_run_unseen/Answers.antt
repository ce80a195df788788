use Rattle.row_laws.proofs.Opening.{ran_so}
use Rattle.row_laws.proofs.standing.rows_run_unseen.Goals as goal

pub returns : goal.returns
returns c = ran_so
