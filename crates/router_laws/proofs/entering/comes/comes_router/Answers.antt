use Rattle.std.specs.Prelude.{None}
use Rattle.std.proofs.Common.{refl}
use Rattle.router_laws.proofs.OfEntering.Coming.{comes_routed, coming_on, new}
use Rattle.router_laws.proofs.OfEntering.Opening.{came_opens}
use Rattle.router_laws.proofs.entering.comes.comes_router.Goals as goal

pub returns : goal.returns
returns law = λ service texts admin log t now roomy port link salt c router may count so.
    comes_routed service log t now roomy port link salt c router may count None tt
    (λ setup codes plan of fits.
    law.comes_go.ensures service.setup service.default_schema setup codes plan log router.core.decided
    (new service log t now roomy port link salt c router may count None tt) t now roomy port link salt c fits may.fits.fresh count
    (coming_on service log t now roomy port link salt c router may count None tt setup codes plan of fits refl) so)
    (came_opens log port link salt c _ so.note t now so.same router.open_just)
