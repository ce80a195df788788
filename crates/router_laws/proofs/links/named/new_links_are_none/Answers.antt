use Rattle.router_laws.proofs.OfLinks.Unnamed.{no_clients, none_there}
use Rattle.router_laws.proofs.links.named.new_links_are_none.Goals as goal

pub returns : goal.returns
returns c = record {
  server = λ setup plan log l new. c.new_links.ensures setup plan log l new;
  none = λ setup plan log l new. none_there setup plan l log new;
  clients = λ setup plan log l new. no_clients setup plan l log new;
}
