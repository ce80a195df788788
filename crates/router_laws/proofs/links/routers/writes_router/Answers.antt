use Rattle.std.specs.Prelude.{◌≡◌, List, Some, take, ℕ}
use Rattle.std.proofs.Common.{sym, ◌∙◌, refl}
use Rattle.mx_wire.specs.declared.entry.Entry.TheVariants.{Wrote}
use Rattle.private_model.specs.View.{Setup}
use Rattle.link_laws.specs.Stands.{Codes}
use Rattle.log_story.specs.Plan.{Plan, StepText}
use Rattle.tale_world.specs.Decided.{Decided}
use Rattle.core_stands.specs.Stands.{Rests}
use Rattle.router_laws.specs.decisions.Deeds.{decided_with}
use Rattle.router_laws.specs.decisions.Plans.{PlansSo}
use Rattle.core_laws.specs.entry.Tells.{ground}
use Rattle.core_laws.specs.writing.Planned.{planned_on}
use Rattle.core_laws.proofs.OfWriting.Knowing.{is_servers}
use Rattle.router_laws.proofs.OfLinks.Calming.{calm_router}
use Rattle.router_laws.proofs.OfLinks.Routing.{begins_step, open_one, writing, writing_begun, writing_idle, wrote_has}
use Rattle.router_laws.proofs.links.routers.writes_router.Goals as goal
use Rattle.router_laws.specs.links.Steps.{begins_on, step_on}

pub returns : goal.returns
returns c = λ service texts admin log t now roomy l offer count router may so.
    let bytes : List ℕ = take count offer.bytes in
    let new : Decided = decided_with (writing (begins_on l t)) router.counts log (Wrote l offer.tag bytes) router.core.decided in
    let steps : (setup : Setup) (codes : Codes) (plan : Plan) → Rests service.setup (ground setup codes plan router.core.decided log) t roomy
    → PlansSo (ground setup codes plan router.core.decided log) log (Wrote l offer.tag bytes) (writing (begins_on l t))
    → (step : StepText) → step_on l t ≡ Some step → planned_on (ground setup codes plan router.core.decided log) l ≡ step =
    λ setup codes plan rests plans step is.
    plans.step l step
    (writing_begun setup plan log l offer.tag bytes (begins_on l t)
    (is_servers service.setup (ground setup codes plan router.core.decided log) t l so.server rests.stands so.there) ∙ begins_step l t step is) in
    calm_router service log (Wrote l offer.tag bytes) (writing (begins_on l t)) t now roomy roomy router may (writing_idle (begins_on l t)) (λ terms codes of fits. tt)
    (λ setup codes plan k. record {
      goes = c.writes_go.ensures.goes service.setup setup codes plan log router.core.decided new t now roomy l offer count k.decided
          (steps setup codes plan k.stood.rests k.so) so;
      clients = c.writes_go.ensures.clients service.setup setup codes plan log router.core.decided new t now roomy l offer count k.decided
          (steps setup codes plan k.stood.rests k.so) so k.stood.rests;
      begins = λ there. c.writes_go.ensures.begins service.setup (ground setup codes plan router.core.decided log) t now l offer count k.stood.rests.stands so;
    })
    (open_one log t now router.open_just (Wrote l offer.tag bytes) l refl (router.open_just l ∙ sym (wrote_has l offer count t now so l))
    (λ k apart. wrote_has l offer count t now so k))
