use Rattle.core_promises.proofs.Verdicts.{asks-text}
use Rattle.core_promises.proofs.judging.verdicts_ask.Goals as goal

pub returns : goal.returns
returns c = λ book situation keys number payload route routed. asks-text book situation number keys payload route routed
