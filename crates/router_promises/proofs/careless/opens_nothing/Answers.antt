use Rattle.std.proofs.Common.{arith, inl, inr, sym, ◌∙◌}
use Rattle.router_promises.specs.Now.{now_at}
use Rattle.router_promises.specs.Rest.{IsShared}
use Rattle.router_promises.proofs.Refusals.{never, rests-at}
use Rattle.router_promises.proofs.careless.opens_nothing.Goals as goal

pub returns : goal.returns
returns c = λ terms before e key has wait many place.
    let shared : IsShared terms before (now_at terms before) key = (rests-at terms before e has wait).shared key in
    elim shared.enough [
      | inl few ↦ omega (arith, few, many)
      | inr none ↦ never (sym place ∙ none)
    ]
