use Rattle.log_story.specs.Tale.{first_tale}
use Rattle.step_laws.proofs.Seating.{counted_seats, log_counted, told_counted}
use Rattle.step_laws.proofs.always.numbered_always.Goals as goal

pub returns : goal.returns
returns c = record {
  always = λ setup plan log. log_counted setup plan log first_tale tt;
  told = λ setup plan tale e are. told_counted setup plan tale e are;
  seated = λ tale are. counted_seats tale are;
}
