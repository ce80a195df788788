use Rattle.std.proofs.Common.{sym, ◌∙◌}
use Rattle.router_promises.specs.Now.{now_at}
use Rattle.router_promises.specs.Rest.{IsServerAtRest}
use Rattle.router_promises.proofs.Refusals.{at-index, never, rests-at}
use Rattle.router_promises.proofs.careless.captures_nothing.Goals as goal

pub returns : goal.returns
returns c = λ terms before e k link has wait within is opened wet quiet owes.
    never (sym owes ∙ ((at-index (IsServerAtRest terms before (now_at terms before)) (now_at terms before).tale.links k link
    (rests-at terms before e has wait).servers within is opened).owes wet).capture quiet)
