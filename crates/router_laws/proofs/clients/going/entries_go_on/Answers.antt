use Rattle.router_laws.proofs.OfClients.Entering.{entered_goes_on}
use Rattle.router_laws.proofs.clients.going.entries_go_on.Goals as goal

pub returns : goal.returns
returns c = entered_goes_on
