use Rattle.core_promises.proofs.Made.{refused_stays}
use Rattle.core_promises.proofs.administering.stages_what_it_refused.Goals as goal

pub returns : goal.returns
returns c = λ text was is reply answer other changes. changes (refused_stays text was is reply answer other)
