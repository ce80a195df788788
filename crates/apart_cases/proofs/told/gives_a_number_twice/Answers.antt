use Rattle.mx_wire.specs.Tells.{Fits}
use Rattle.router_promises.proofs.Refusals.{kept-at}
use Rattle.apart_cases.proofs.told.gives_a_number_twice.Goals as goal

pub returns : goal.returns
returns c = λ terms before port link salt has used. used (kept-at Fits before has.more _ has.keeps.fits).fresh
