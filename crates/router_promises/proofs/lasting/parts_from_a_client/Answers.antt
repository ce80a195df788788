use Rattle.router_promises.proofs.Lapses.{client-parted}
use Rattle.router_promises.proofs.Refusals.{kept-at}
use Rattle.router_promises.proofs.lasting.parts_from_a_client.Goals as goal

pub returns : goal.returns
returns c = λ terms before e k client has within is ended needless known fed served far few.
    client-parted terms before e k client (kept-at _ before has.more e has.keeps.ends) within is ended needless known fed served far few
