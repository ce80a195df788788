use Rattle.std.specs.Prelude.{ℕ}
use Rattle.std.specs.Option.{option_map}
use Rattle.std.proofs.Common.{ap, ◌∙◌}
use Rattle.client_seat.specs.Requests.{request_of}
use Rattle.core_laws.proofs.OfTaking.Joining.{asks_so, is_said, says_so}
use Rattle.core_laws.proofs.taking.joins.texts_are_asked.Goals as goal

pub returns-clause-asked : goal.returns-clause-asked
returns-clause-asked c = says_so

pub returns-clause-plain : goal.returns-clause-plain
returns-clause-plain c = is_said

pub returns-clause-requested : goal.returns-clause-requested
returns-clause-requested c = λ x setup client row message route command found unprepared asked.
    c.seats_prepare.ensures.text x setup client row.desk.seat.statements (λ (n : ℕ). n) route message.payload unprepared.no_execute
    ∙ ap (option_map (request_of setup (x.view.places client.number).schema route.key (λ (n : ℕ). n)))
    (asks_so row message route.text command found asked)
