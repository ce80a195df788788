use Rattle.router_laws.proofs.OfWaits.Done.{done}
use Rattle.router_laws.proofs.waits.done.waits_done.Goals as goal

pub returns : goal.returns
returns c = λ service terms codes d log t roomy of fits rests written safe silent open_just drained.
    done service.setup terms codes d log t roomy of rests written silent drained safe open_just
