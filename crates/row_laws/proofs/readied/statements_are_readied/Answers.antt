use Rattle.row_laws.proofs.Spelling.{statement_so}
use Rattle.row_laws.proofs.readied.statements_are_readied.Goals as goal

pub returns : goal.returns
returns c = statement_so
