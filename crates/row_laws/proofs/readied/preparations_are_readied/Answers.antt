use Rattle.row_laws.proofs.Spelling.{prep_so}
use Rattle.row_laws.proofs.readied.preparations_are_readied.Goals as goal

pub returns : goal.returns
returns c = prep_so
