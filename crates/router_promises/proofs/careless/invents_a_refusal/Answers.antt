use Rattle.std.proofs.Common.{sym, ◌∙◌}
use Rattle.router_promises.proofs.Causes.{told-step}
use Rattle.router_promises.proofs.Refusals.{kept-at, never}
use Rattle.router_promises.proofs.careless.invents_a_refusal.Goals as goal

pub returns : goal.returns
returns c = λ terms before e code m has own none.
    let cause = told-step terms before e m code (kept-at _ before has.more e has.keeps.gives_up) own in
    never (sym cause.refused ∙ none cause.answer cause.whole)
