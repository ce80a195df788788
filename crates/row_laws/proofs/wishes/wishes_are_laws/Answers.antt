use Rattle.row_laws.proofs.Wishing.{wish_so}
use Rattle.row_laws.proofs.wishes.wishes_are_laws.Goals as goal

pub returns : goal.returns
returns c = λ texts fits setup codes state link held n due wanted place of_key long standing step is.
    wish_so texts fits setup codes state link held n due wanted place of_key long standing step is
