use Rattle.std.proofs.Common.{inl, inr, sym, ◌∙◌}
use Rattle.router_promises.proofs.Causes.{told-bad}
use Rattle.router_promises.proofs.Refusals.{kept-at, never}
use Rattle.router_promises.proofs.careless.invents_bad_bytes.Goals as goal

pub returns : goal.returns
returns c = λ terms before e place m has own good result.
    elim (told-bad terms before e m place (kept-at _ before has.more e has.keeps.gives_up) own) [
      | inl bad ↦ good bad.place bad.bad
      | inr amiss ↦ never (sym amiss.amiss ∙ result amiss.answer amiss.whole)
    ]
