use Rattle.step_laws.proofs.Counting.{counted_done}
use Rattle.step_laws.proofs.spared.counting_rests.Goals as goal

pub returns : goal.returns
returns c = λ setup plan tale link other. counted_done setup plan tale link other
