use Rattle.step_laws.proofs.Taking.{idle_takes, next_takes, past_idle}
use Rattle.step_laws.proofs.taken.takes_one_by_one.Goals as goal

pub returns : goal.returns
returns c = record {
  next = λ setup plan most client tale other is. next_takes setup plan most client tale other is;
  last = λ setup plan most client tale idle. idle_takes setup plan most client tale idle;
  all = λ setup plan client tale past. past_idle setup plan client tale past;
}
