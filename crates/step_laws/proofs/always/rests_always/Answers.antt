use Rattle.log_story.specs.Tale.{first_tale}
use Rattle.step_laws.proofs.Seating.{first_rests, log_rests}
use Rattle.step_laws.proofs.always.rests_always.Goals as goal

pub returns : goal.returns
returns c = λ setup plan log. log_rests setup plan log first_tale (first_rests setup plan)
