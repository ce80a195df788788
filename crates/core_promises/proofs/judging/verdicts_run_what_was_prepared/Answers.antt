use Rattle.core_promises.proofs.Statements.{runs-prepared}
use Rattle.core_promises.proofs.judging.verdicts_run_what_was_prepared.Goals as goal

pub returns : goal.returns
returns c = λ book situation keys number rest route routed. runs-prepared book situation keys number rest route routed
