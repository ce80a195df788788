use Rattle.row_laws.proofs.Entering.{entered_there}
use Rattle.row_laws.proofs.reads.rows_enter.Goals as goal

pub returns : goal.returns
returns c = λ setup codes plan tale l row new news bytes is outside fine here by. entered_there setup codes plan tale l row bytes is outside fine here news new by
