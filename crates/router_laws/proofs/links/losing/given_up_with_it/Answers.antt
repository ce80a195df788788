use Rattle.router_laws.proofs.OfLinks.Giving.{given_up_with}
use Rattle.router_laws.proofs.links.losing.given_up_with_it.Goals as goal

pub returns : goal.returns
returns c = λ service g t l given stands may. given_up_with service g t l given stands may
