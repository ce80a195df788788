use Rattle.router_laws.proofs.OfReading.Made.{made_going, made_so}
use Rattle.router_laws.proofs.reading.cores.hears_so.Goals as goal

pub returns-clause-so : goal.returns-clause-so
returns-clause-so c = made_so

pub returns-clause-going : goal.returns-clause-going
returns-clause-going c = made_going
