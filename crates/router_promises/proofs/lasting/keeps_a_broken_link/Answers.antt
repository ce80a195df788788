use Rattle.std.proofs.Common.{sym, ◌∙◌}
use Rattle.router_promises.specs.Now.{now_at}
use Rattle.router_promises.specs.Rest.{IsClientAtRest}
use Rattle.router_promises.proofs.Refusals.{at-index, never, rests-at}
use Rattle.router_promises.proofs.lasting.keeps_a_broken_link.Goals as goal

pub returns : goal.returns
returns c = λ terms before e k client has wait within is opened broken.
    never (sym broken ∙ (at-index (IsClientAtRest terms before (now_at terms before)) (now_at terms before).tale.clients k client (rests-at terms before e has wait).clients within is opened).unbroken)
