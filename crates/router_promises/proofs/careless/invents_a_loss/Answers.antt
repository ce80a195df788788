use Rattle.std.proofs.Common.{sym, ◌∙◌}
use Rattle.router_promises.proofs.Causes.{told-lost}
use Rattle.router_promises.proofs.Refusals.{kept-at, never}
use Rattle.router_promises.proofs.careless.invents_a_loss.Goals as goal

pub returns : goal.returns
returns c = λ terms before e m has own sound.
    never (sym (told-lost terms before e m (kept-at _ before has.more e has.keeps.gives_up) own) ∙ sound)
