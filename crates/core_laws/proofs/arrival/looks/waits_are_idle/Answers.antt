use Rattle.core_laws.proofs.OfArrival.Idling.{waiting-idles}
use Rattle.core_laws.proofs.arrival.looks.waits_are_idle.Goals as goal

pub returns : goal.returns
returns c = λ g client waits. waiting-idles g.setup g.plan client g.tale waits
