use Rattle.step_laws.proofs.Leaving.{ended_leave}
use Rattle.step_laws.proofs.ended.ends_among.Goals as goal

pub returns : goal.returns
returns c = λ plan tale. ended_leave plan tale
