use Rattle.router_laws.proofs.OfReading.Unsound.{are_given_up}
use Rattle.router_laws.proofs.reading.aside.given_up_aside.Goals as goal

pub returns : goal.returns
returns c = λ service g t l given stands may. are_given_up service g t l given stands may
