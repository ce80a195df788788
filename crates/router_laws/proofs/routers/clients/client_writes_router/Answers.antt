use Rattle.std.specs.Prelude.{None}
use Rattle.std.proofs.Common.{refl}
use Rattle.mx_wire.specs.declared.entry.Entry.TheVariants.{Wrote}
use Rattle.log_story.specs.Headline.{tale_of}
use Rattle.log_story.specs.Tale.{is_to_server}
use Rattle.core_laws.specs.entry.Tells.{ground}
use Rattle.router_laws.proofs.OfClients.Linking.{off_server}
use Rattle.router_laws.proofs.OfDecisions.Fates.{false_true}
use Rattle.router_laws.specs.decisions.Deeds.{decided_with}
use Rattle.router_laws.proofs.OfRouters.Entering.{router_enters}
use Rattle.router_laws.proofs.OfRouters.Opening.{wrote_opens}
use Rattle.router_laws.proofs.routers.clients.client_writes_router.Goals as goal
use Rattle.router_laws.specs.routers.Enters.{of_link}

pub returns : goal.returns
returns c = λ service texts admin log t now roomy room link tag bytes count client router may so.
    router_enters service log (Wrote link tag bytes) None None t now roomy room router may refl (λ terms codes of fits. tt)
    (λ setup codes plan stood fits plans decided.
    record {
      goes = c.client_writes_go.ensures service.setup service.default_schema setup codes plan log router.core.decided
          (decided_with (of_link None None) router.counts log (Wrote link tag bytes) router.core.decided) t now roomy room link tag bytes count client fits
          decided so;
      begins = λ server. false_true (is_to_server (tale_of setup plan log) link)
          (off_server service.setup (ground setup codes plan router.core.decided log) t link client so.row stood.rests.stands so.its) server;
    })
    (wrote_opens log link tag bytes count client roomy room t now so router.open_just)
