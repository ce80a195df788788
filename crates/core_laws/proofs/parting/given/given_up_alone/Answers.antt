use Rattle.core_laws.proofs.OfParting.Alone.{nobody_so, one_so}
use Rattle.core_laws.proofs.parting.given.given_up_alone.Goals as goal

pub returns-clause-one : goal.returns-clause-one
returns-clause-one c = one_so

pub returns-clause-none : goal.returns-clause-none
returns-clause-none c = nobody_so
