use Rattle.client_seat.proofs.Preparing.{asks-run, asks-text, number-noted}
use Rattle.client_seat.proofs.laws.seats_prepare.Goals as goal

pub returns-clause-noted : goal.returns-clause-noted
returns-clause-noted c = number-noted

pub returns-clause-text : goal.returns-clause-text
returns-clause-text c = asks-text

pub returns-clause-runs : goal.returns-clause-runs
returns-clause-runs c = asks-run
