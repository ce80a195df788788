use Rattle.step_laws.proofs.Apart.{counted_apart, freed_apart, told_apart}
use Rattle.step_laws.proofs.taken.happenings_leave.Goals as goal

pub returns : goal.returns
returns c = record {
  told = λ setup plan client e tale other. told_apart setup plan client e tale other;
  freed = λ setup plan client links tale. freed_apart setup plan client links tale;
  counts = λ setup plan client tale none. counted_apart setup plan client tale none;
}
