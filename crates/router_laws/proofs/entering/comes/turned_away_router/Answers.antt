use Rattle.std.specs.Prelude.{[]}
use Rattle.std.proofs.Common.{refl}
use Rattle.mx_wire.specs.declared.entry.Entry.TheVariants.{Accepted}
use Rattle.router_laws.proofs.OfEntering.Coming.{away_ours, away, comes_routed, new, turned}
use Rattle.router_laws.proofs.OfEntering.Opening.{away_opens, came_opens}
use Rattle.router_laws.proofs.entering.comes.turned_away_router.Goals as goal

pub returns : goal.returns
returns law = λ service texts admin log t now roomy port link salt c router may count so.
    comes_routed service log t now roomy port link salt c router may count away away_ours
    (λ setup codes plan of fits.
    law.turned_away_go.ensures service.setup service.default_schema setup codes plan log router.core.decided
    (new service log t now roomy port link salt c router may count away away_ours) t now roomy port link salt c fits may.fits.fresh count
    (turned service log t now roomy port link salt c router may count away away_ours setup codes plan of fits refl) so)
    (away_opens log (Accepted port link salt) c so.between now so.ends
    (came_opens log port link salt c _ so.comes.note t so.between so.comes.same router.open_just))
