use Rattle.std.specs.Prelude.{None}
use Rattle.std.proofs.Common.{refl}
use Rattle.mx_wire.specs.declared.entry.Entry.TheVariants.{Closed}
use Rattle.router_laws.specs.decisions.Deeds.{decided_with}
use Rattle.router_laws.proofs.OfRouters.Entering.{router_enters}
use Rattle.router_laws.proofs.OfRouters.Fitting.{linked, somehow}
use Rattle.router_laws.proofs.OfRouters.Opening.{parts_open}
use Rattle.router_laws.proofs.routers.clients.parts_router.Goals as goal
use Rattle.router_laws.specs.routers.Enters.{of_link}
use Rattle.router_laws.specs.routers.Somehow.{RestsSomehow}

pub returns : goal.returns
returns c = λ service texts admin log t now roomy link client router may so.
    let some : RestsSomehow service.setup log t roomy = somehow service log t roomy router in
    router_enters service log (Closed link) None None t now roomy roomy router may refl (λ terms codes of fits. tt)
    (λ setup codes plan stood fits plans decided.
    record {
      goes = c.parts_go.ensures service.setup service.default_schema setup codes plan log router.core.decided
          (decided_with (of_link None None) router.counts log (Closed link) router.core.decided) t now roomy link client fits decided so;
      begins = tt;
    })
    (parts_open log link client t now so (λ l other numbered. linked service.setup some.g t some.rests.stands l other numbered) router.open_just)
