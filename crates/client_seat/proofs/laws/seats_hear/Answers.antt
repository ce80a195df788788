use Rattle.client_seat.proofs.Hearing.{heard, is-next, served-taken}
use Rattle.client_seat.proofs.laws.seats_hear.Goals as goal

pub returns-clause-hears : goal.returns-clause-hears
returns-clause-hears c = heard

pub returns-clause-next : goal.returns-clause-next
returns-clause-next c = is-next

pub returns-clause-taken : goal.returns-clause-taken
returns-clause-taken c = served-taken
