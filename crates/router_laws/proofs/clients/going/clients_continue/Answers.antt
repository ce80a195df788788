use Rattle.router_laws.proofs.OfClients.Continuing.{all_there, all_were}
use Rattle.router_laws.proofs.clients.going.clients_continue.Goals as goal

pub returns-clause-there : goal.returns-clause-there
returns-clause-there c = all_there

pub returns-clause-were : goal.returns-clause-were
returns-clause-were c = all_were
