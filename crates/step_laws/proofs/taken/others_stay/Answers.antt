use Rattle.step_laws.proofs.Others.{as_it_was, idle_by, spared_alike}
use Rattle.step_laws.proofs.taken.others_stay.Goals as goal

pub returns : goal.returns
returns c = record {
  others = λ setup plan whose old new client spares other. as_it_was setup plan client old new (spared_alike setup plan whose old new spares client other);
  idle = λ setup plan old new client is idle. idle_by setup plan client old new is.up idle;
}
