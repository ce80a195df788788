use Rattle.std.proofs.Common.{sym, ◌∙◌}
use Rattle.router_promises.proofs.Refusals.{kept-at, none-some}
use Rattle.router_promises.proofs.lasting.answers_late.Goals as goal

pub returns : goal.returns
returns c = λ terms before e m answer has own from nowhere.
    none-some (sym nowhere ∙ ((kept-at _ before has.more e has.keeps.gives_up).each m answer own from).goes)
