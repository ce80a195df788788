use Rattle.client_seat.proofs.Entering.{enters, goes, waits}
use Rattle.client_seat.proofs.laws.seats_log_in.Goals as goal

pub returns-clause-goes : goal.returns-clause-goes
returns-clause-goes c = goes

pub returns-clause-waits : goal.returns-clause-waits
returns-clause-waits c = waits

pub returns-clause-enters : goal.returns-clause-enters
returns-clause-enters c = enters
