use Rattle.core_promises.proofs.Homing.{goes-home}
use Rattle.core_promises.proofs.judging.verdicts_go_home.Goals as goal

pub returns : goal.returns
returns c = λ book situation keys number text route routed closed stays. goes-home book situation keys number text route routed closed stays
