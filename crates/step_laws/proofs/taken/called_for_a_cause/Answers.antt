use Rattle.step_laws.proofs.Taking.{uncalled}
use Rattle.step_laws.proofs.taken.called_for_a_cause.Goals as goal

pub returns : goal.returns
returns c = λ plan moment view e client sleeps apart none. uncalled plan moment view e client sleeps apart none
