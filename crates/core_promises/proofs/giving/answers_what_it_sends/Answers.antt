use Rattle.core_promises.proofs.Given.{not-at-once}
use Rattle.core_promises.proofs.giving.answers_what_it_sends.Goals as goal

pub returns : goal.returns
returns c = not-at-once
