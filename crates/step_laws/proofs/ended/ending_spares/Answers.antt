use Rattle.step_laws.proofs.Leaving.{leave_spares}
use Rattle.step_laws.proofs.ended.ending_spares.Goals as goal

pub returns : goal.returns
returns c = λ setup whose ended tale its. leave_spares setup whose ended tale its
