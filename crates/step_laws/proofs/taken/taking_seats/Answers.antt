use Rattle.std.specs.Prelude.{slice_get}
use Rattle.log_story.specs.Owed.{messages}
use Rattle.step_laws.proofs.Taking.{once_seats, seated_next, taken_to_seats}
use Rattle.step_laws.proofs.taken.taking_seats.Goals as goal

pub returns : goal.returns
returns c = record {
  once = λ setup plan client next tale other number seated is.
      seated_next setup plan client next tale other number (once_seats setup plan client (slice_get (messages plan client) client.taken) tale other is) seated;
  all = λ setup plan most client tale seated. taken_to_seats setup plan most client tale seated;
}
