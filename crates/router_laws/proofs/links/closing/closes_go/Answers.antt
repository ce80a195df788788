use Rattle.std.specs.Prelude.{Bool}
use Rattle.std.proofs.Common.{◌∙◌}
use Rattle.client_session.specs.Setups.{Setup as Service}
use Rattle.private_model.specs.Names.{ClientNo, LinkId}
use Rattle.core_tables.specs.Tables.{Tabled}
use Rattle.core_stands.specs.Grounds.{Ground, on}
use Rattle.core_stands.specs.Stands.{Rests, Stands}
use Rattle.core_laws.proofs.OfEntry.Uneventful.{Testing, nobody_given, none_counted}
use Rattle.core_laws.specs.parting.Partings.{AreGivenUp}
use Rattle.private_model.specs.Story.{is_link_id}
use Rattle.core_laws.specs.entry.Tells.{ground}
use Rattle.router_laws.proofs.OfClients.Entering.{entered_goes_on}
use Rattle.router_laws.specs.clients.Plans.{IsDecided, nobody, over_by}
use Rattle.router_laws.specs.links.Closes.{ClosesSo}
use Rattle.core_tables.specs.Parting.{given_up_in, lost_in}
use Rattle.core_laws.proofs.OfLinks.Uncalled.{Sames}
use Rattle.mx_wire.specs.declared.entry.Entry.TheVariants.{Closed}
use Rattle.router_laws.proofs.OfLinks.Closings.{closed, closed_clients, closed_over, closing_due, gone_tale, unusable}
use Rattle.router_laws.proofs.OfLinks.Leaving.{losing_so}
use Rattle.router_laws.proofs.OfLinks.Giving.{none_given_up}
use Rattle.router_laws.proofs.links.closing.closes_go.Goals as goal

pub returns : goal.returns
returns c =
    let testing : (service : Service) → Testing service = c.freed_stands.ensures.test in
    let sames : (service : Service) → Sames service = c.same_stands.ensures in
    let gone : (service : Service) (g : Ground) (t now : Tabled) (roomy room over : ClientNo → Bool) (l : LinkId) → IsDecided g nobody over
    → ClosesSo l room t now → Rests service g t roomy → Stands service (on g (gone_tale g.tale l)) (closed t l) =
    λ service g t now roomy room over l decided so rests.
    c.forgotten_stands.ensures service (on g (gone_tale g.tale l)) (given_up_in nobody_given (lost_in l t)) l
    (c.lost_stands.ensures service g t l nobody_given rests.stands (losing_so service g t l rests.stands nobody_given so.may.with_it)
    (none_given_up (λ other. is_link_id other l) t) (none_counted g decided.still)) (unusable g l) in
    record {
      goes = λ service setup codes plan log old new t now roomy room l decided rooms so.
          let g : Ground = ground setup codes plan old log in
          let stands : Rests service g t roomy → Stands service (on g (gone_tale g.tale l)) (closed t l) =
          gone service g t now roomy room (over_by new) l decided so in
          entered_goes_on service setup codes plan log (Closed l) old new t now roomy room nobody decided
          (record {
            rests = λ rests.
                closed_over service (testing service) (sames service) g t now roomy room l (over_by new) decided so rooms rests (stands rests);
            due = λ rests. closing_due g log l (over_by new) now;
            off = λ rests. tt;
          });
      clients = λ service setup codes plan log old new t now roomy room l decided rooms so rests.
          let g : Ground = ground setup codes plan old log in
          closed_clients service (testing service) (sames service) g t now roomy room l (over_by new) decided so rooms rests
          (gone service g t now roomy room (over_by new) l decided so rests);
    }
