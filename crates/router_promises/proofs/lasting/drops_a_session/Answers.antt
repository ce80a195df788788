use Rattle.router_promises.specs.Now.{now_at}
use Rattle.router_promises.proofs.Lapses.{session-dropped}
use Rattle.router_promises.proofs.Refusals.{kept-at}
use Rattle.router_promises.proofs.lasting.drops_a_session.Goals as goal

pub returns : goal.returns
returns c = λ terms before link n has there untold carries here sound right fed.
    session-dropped terms before (now_at terms before) link n untold carries here sound right fed (kept-at _ before has.more _ has.keeps.closes there)
