use Rattle.std.proofs.Common.{ap, sym, ◌∙◌}
use Rattle.router_promises.specs.Keys.{oldest}
use Rattle.router_promises.specs.Now.{now_at}
use Rattle.router_promises.proofs.Refusals.{kept-at, refused-for, same-some}
use Rattle.router_promises.proofs.lasting.charges_another.Goals as goal

pub returns : goal.returns
returns c = λ terms before e m key has own tried other.
    let why = refused-for terms before e m (kept-at _ before has.more e has.keeps.gives_up) own in
    other (ap (oldest terms (now_at terms before)) (same-some key why.0 (sym tried ∙ why.1)) ∙ why.2)
