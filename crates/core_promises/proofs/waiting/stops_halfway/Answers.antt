use Rattle.std.proofs.Common.{sym, ◌∙◌, inl, inr}
use Rattle.router_promises.proofs.Refusals.{never}
use Rattle.core_promises.proofs.Done.{begun-on, way-at}
use Rattle.core_promises.proofs.waiting.stops_halfway.Goals as goal

pub returns : goal.returns
returns c = λ terms before client route link question expects home asked half wet.
    elim (begun-on terms before _ _ link (way-at terms before client route expects) home question asked) [
      | inl dry ↦ never (sym dry ∙ wet)
      | inr whole ↦ half whole
    ]
