use Rattle.core_laws.proofs.OfEntry.Looping.{taking_begins, taking_ends, taking_goes_on, taking_looks}
use Rattle.core_laws.proofs.entry.loops.messages_are_taken.Goals as goal

pub returns : goal.returns
returns c = record {
  begins = taking_begins;
  looks = λ service first client from g t now is stands. taking_looks service first client from g t is now stands;
  goes_on = λ service first client from other g t now is next stands.
      taking_goes_on service first client from g t is now other next stands;
  ends = λ service first client from g t is idle. taking_ends service first client from g t is idle;
}
