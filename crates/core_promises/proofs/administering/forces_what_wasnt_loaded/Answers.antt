use Rattle.core_promises.proofs.Made.{only_loads}
use Rattle.core_promises.proofs.administering.forces_what_wasnt_loaded.Goals as goal

pub returns : goal.returns
returns c = λ text was is reply answer other changes. changes (only_loads text was is reply answer other)
