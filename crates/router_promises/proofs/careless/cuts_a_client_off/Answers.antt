use Rattle.router_promises.proofs.Cares.{parted-so}
use Rattle.router_promises.proofs.Refusals.{kept-at}
use Rattle.router_promises.proofs.careless.cuts_a_client_off.Goals as goal

pub returns : goal.returns
returns c = λ terms before k client has within is untold sound early known heard.
    parted-so terms before k client (kept-at _ before has.more _ has.keeps.ends) within is untold sound early known heard
