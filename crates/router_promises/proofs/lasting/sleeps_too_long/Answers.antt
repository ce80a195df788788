use Rattle.router_promises.specs.Now.{now_at}
use Rattle.router_promises.proofs.Lapses.{slept-long}
use Rattle.router_promises.proofs.Refusals.{kept-at}
use Rattle.router_promises.proofs.lasting.sleeps_too_long.Goals as goal

pub returns : goal.returns
returns c = λ terms before until_ms now_ms k has within early.
    slept-long terms before (now_at terms before) until_ms k (kept-at _ before has.more _ has.keeps.rests).until within early
