use Rattle.std.proofs.Common.{arith}
use Rattle.router_promises.specs.Now.{now_at}
use Rattle.router_promises.specs.Rest.{IsServerAtRest}
use Rattle.router_promises.proofs.Refusals.{at-index, rests-at}
use Rattle.router_promises.proofs.lasting.keeps_an_idle_link.Goals as goal

pub returns : goal.returns
returns c = λ terms before e k link has wait within is opened resting late.
    let young = (at-index (IsServerAtRest terms before (now_at terms before)) (now_at terms before).tale.links k link (rests-at terms before e has wait).servers within is opened).young resting in
    omega (arith, young, late)
