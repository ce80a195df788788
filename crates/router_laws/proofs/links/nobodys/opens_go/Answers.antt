use Rattle.std.specs.Prelude.{◌≡◌, Bool, ℕ}
use Rattle.std.proofs.Common.{sym, subst}
use Rattle.mx_base.specs.declared.names.Address.{Address}
use Rattle.mx_wire.specs.Log.{Log}
use Rattle.mx_wire.specs.Tells.{IsNew}
use Rattle.mx_wire.specs.declared.entry.Entry.TheVariants.{Opened}
use Rattle.server_side.specs.Account.{Account}
use Rattle.client_session.specs.Setups.{Setup as Service}
use Rattle.private_model.specs.Names.{ClientNo, LinkId, ServerId}
use Rattle.private_model.specs.View.{Setup}
use Rattle.link_laws.specs.Stands.{Codes}
use Rattle.log_story.specs.Plan.{Plan}
use Rattle.log_story.specs.Telling.{told}
use Rattle.tale_world.specs.Decided.{Decided}
use Rattle.core_tables.specs.Tables.{IsSame, Tabled}
use Rattle.core_tables.specs.Writing.{opened}
use Rattle.core_stands.specs.Grounds.{Ground, on}
use Rattle.core_stands.specs.Stands.{Rests, Stands}
use Rattle.core_laws.proofs.OfEntry.Uneventful.{Counting, Testing}
use Rattle.core_laws.specs.entry.Tells.{ground}
use Rattle.router_laws.specs.clients.Plans.{nobody}
use Rattle.core_laws.proofs.OfLinks.Uncalled.{Sames}
use Rattle.router_laws.proofs.OfLinks.Going.{goes_on}
use Rattle.router_laws.proofs.OfLinks.Opening.{due, rested, safely, step_clients}
use Rattle.router_laws.proofs.links.nobodys.opens_go.Goals as goal
use Rattle.router_laws.specs.links.Opens.{OpensSo}

pub returns : goal.returns
returns c =
    let counting : (service : Service) → Counting service = c.counts_alone.ensures in
    let testing : (service : Service) → Testing service = c.freed_stands.ensures.test in
    let sames : (service : Service) → Sames service = c.same_stands.ensures in
    let stands : (service : Service) (setup : Setup) (codes : Codes) (plan : Plan) (log : Log) (old : Decided) (t now : Tabled) (roomy : ClientNo → Bool)
    (server : ServerId) (address : Address) (l : LinkId) (login : Account) → IsNew l log → plan.logins l ≡ login → OpensSo l server login t now
    → Rests service (ground setup codes plan old log) t roomy
    → Stands service (on (ground setup codes plan old log) (told setup plan (ground setup codes plan old log).tale (Opened server address l))) now =
    λ service setup codes plan log old t now roomy server address l login fresh logs_in so rests.
    c.links_open.ensures service (ground setup codes plan old log) t now server address l so.slot so.opening so.moment rests.stands
    (c.new_links_are_none.ensures.server setup plan log l fresh) (c.new_links_are_none.ensures.none setup plan log l fresh)
    (c.new_links_are_none.ensures.clients setup plan log l fresh) so.to
    (subst (λ (account : Account). IsSame now (opened l so.slot so.opening account so.moment t)) (sym logs_in) so.same) in
    record {
      goes = λ service setup codes plan log old new t now roomy server address l login fresh decided logs_in so.
          let none = c.new_links_are_none.ensures.server setup plan log l fresh in
          let there = stands service setup codes plan log old t now roomy server address l login fresh logs_in so in
          goes_on service setup codes plan log (Opened server address l) old new t now roomy roomy nobody decided
          (λ rests. rested service setup codes plan log old new t now roomy server address l login (counting service) (testing service) (sames service)
          decided so rests none (there rests))
          (λ rests. due service setup codes plan log old new t now roomy server address l login (counting service) (testing service) (sames service)
          decided so rests none (there rests))
          (λ rests then. safely service setup codes plan log old new t now roomy server address l login (counting service) (testing service)
          (sames service) decided so rests none (there rests));
      clients = λ service setup codes plan log old new t now roomy server address l login fresh decided logs_in so rests.
          step_clients service setup codes plan log old new t now roomy server address l login (counting service) (testing service) (sames service) decided
          so rests (c.new_links_are_none.ensures.server setup plan log l fresh)
          (stands service setup codes plan log old t now roomy server address l login fresh logs_in so rests);
    }
