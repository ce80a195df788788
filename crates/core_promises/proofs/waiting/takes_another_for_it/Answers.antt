use Rattle.std.proofs.Common.{sym, ◌∙◌, inl, inr}
use Rattle.router_promises.proofs.Refusals.{never}
use Rattle.core_promises.proofs.Done.{stated-on, way-at}
use Rattle.core_promises.proofs.waiting.takes_another_for_it.Goals as goal

pub returns : goal.returns
returns c = λ terms before client route link expects home other over.
    elim (stated-on terms before _ _ link (way-at terms before client route expects) home) [
      | inl sent ↦ other sent
      | inr due ↦ never (sym due ∙ over)
    ]
