use Rattle.std.proofs.Common.{sym, refl}
use Rattle.mx_wire.specs.declared.entry.Entry.TheVariants.{Closed}
use Rattle.router_laws.specs.decisions.Deeds.{decided_with, no_deeds}
use Rattle.router_laws.proofs.OfLinks.Calming.{calm_router}
use Rattle.router_laws.proofs.OfLinks.Routing.{closed_has, closed_none, none_idle, open_one}
use Rattle.router_laws.proofs.links.routers.closes_router.Goals as goal

pub returns : goal.returns
returns c = λ service texts admin log t now roomy room l router may rooms so.
    calm_router service log (Closed l) no_deeds t now roomy room router may none_idle (λ terms codes of fits. tt)
    (λ setup codes plan k. record {
      goes = c.closes_go.ensures.goes service.setup setup codes plan log router.core.decided (decided_with no_deeds router.counts log (Closed l) router.core.decided) t now roomy room l k.decided rooms so;
      clients = c.closes_go.ensures.clients service.setup setup codes plan log router.core.decided (decided_with no_deeds router.counts log (Closed l) router.core.decided) t now roomy room l k.decided rooms so k.stood.rests;
      begins = tt;
    })
    (open_one log t now router.open_just (Closed l) l refl (sym (closed_none l room t now so)) (λ k apart. closed_has l room t now so k apart))
