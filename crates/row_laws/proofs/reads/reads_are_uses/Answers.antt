use Rattle.row_laws.proofs.Using.{heard_used}
use Rattle.row_laws.proofs.reads.reads_are_uses.Goals as goal

pub returns : goal.returns
returns c = heard_used
