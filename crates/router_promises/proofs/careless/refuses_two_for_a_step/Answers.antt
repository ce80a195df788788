use Rattle.router_promises.proofs.Refusals.{kept-at}
use Rattle.router_promises.proofs.careless.refuses_two_for_a_step.Goals as goal

pub returns : goal.returns
returns c = λ terms before e code m other has one two apart.
    apart ((kept-at _ before has.more e has.keeps.gives_up).single code m other one two)
