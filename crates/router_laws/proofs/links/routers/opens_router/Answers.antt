use Rattle.std.specs.Prelude.{◌||◌, is_some, Option, Some, None}
use Rattle.std.proofs.Common.{ap, sym, ◌∙◌, refl}
use Rattle.mx_wire.specs.declared.entry.Entry.TheVariants.{Opened}
use Rattle.tale_world.specs.Decided.{Decided}
use Rattle.served_link.specs.Rows.{new_row}
use Rattle.router_laws.specs.decisions.Deeds.{decided_with}
use Rattle.core_tables.specs.declared.server.Server.{Server}
use Rattle.router_laws.proofs.OfLinks.Calming.{calm_router}
use Rattle.router_laws.proofs.OfLinks.Routing.{open_one, opened_row, opening, opening_idle, opening_login, put_aside}
use Rattle.router_laws.proofs.links.routers.opens_router.Goals as goal

pub returns : goal.returns
returns c = λ service texts admin log t now roomy server address l login router may so.
    let new : Decided = decided_with (opening login) router.counts log (Opened server address l) router.core.decided in
    calm_router service log (Opened server address l) (opening login) t now roomy roomy router may (opening_idle login) (λ terms codes of fits. tt)
    (λ setup codes plan k. record {
      goes = c.opens_go.ensures.goes service.setup setup codes plan log router.core.decided new t now roomy server address l login may.fits.fresh k.decided
          (k.so.login l login (opening_login server address l login)) so;
      clients = c.opens_go.ensures.clients service.setup setup codes plan log router.core.decided new t now roomy server address l login may.fits.fresh k.decided
          (k.so.login l login (opening_login server address l login)) so k.stood.rests;
      begins = tt;
    })
    (open_one log t now router.open_just (Opened server address l) l refl
    (sym (ap (λ (row : Option Server). is_some row || is_some (now.numbers l)) (opened_row l server login t now so)))
    (λ k apart. λ i. is_some ((so.same.links k ∙ put_aside l k (t.links k) (Some (record { row = new_row so.opening login so.moment; slot = so.slot; spot = None })) apart) i) || is_some (so.same.numbers k i)))
