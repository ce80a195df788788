use Rattle.client_seat.proofs.Numbering.{goes_on, makes}
use Rattle.client_seat.proofs.laws.numbers_go_on.Goals as goal

pub returns-clause-onward : goal.returns-clause-onward
returns-clause-onward c = λ x y client other named number one on within is. goes_on x y client other on named number one within is

pub returns-clause-makes : goal.returns-clause-makes
returns-clause-makes c = makes
