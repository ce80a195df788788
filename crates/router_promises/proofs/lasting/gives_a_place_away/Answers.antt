use Rattle.router_promises.proofs.Refusals.{kept-at}
use Rattle.router_promises.proofs.lasting.gives_a_place_away.Goals as goal

pub returns : goal.returns
returns c = λ terms before port link salt has taken. taken (kept-at _ before has.more _ has.keeps.fits).fresh
