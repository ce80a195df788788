use Rattle.std.specs.Prelude.{true}
use Rattle.core_laws.proofs.taking.joins.written_answers_stand.Goals as goal
use Rattle.core_laws.proofs.OfTaking.Joining.{noted_there}

pub returns : goal.returns
returns c = λ service g t other client row stands is flag payloads before packets unrouted own none written plain taken.
    c.own_answers_stand.ensures service g t other client row stands is flag payloads packets taken.statements unrouted own
    (c.own_answers_are_spelt.ensures row before packets payloads none written) plain
    (noted_there true t client.number row is.up.message taken.statements is.there is.up.found taken.noted) taken.same
