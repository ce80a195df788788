use Rattle.std.proofs.Common.{arith}
use Rattle.router_promises.proofs.Refusals.{kept-at}
use Rattle.router_promises.proofs.careless.lets_them_wait.Goals as goal

pub returns : goal.returns
returns c = λ terms before until_ms now_ms key has many.
    let few = (kept-at _ before has.more _ has.keeps.gives_up).few key in
    omega (arith, few, many)
