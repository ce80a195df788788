use Rattle.std.specs.Prelude.{◌≡◌, Bool, Option, Some, false, is_some, take, true, ℕ}
use Rattle.std.proofs.Common.{ap, sym, ◌∙◌}
use Rattle.mx_base.specs.Sent.{Sent as Offer}
use Rattle.mx_wire.specs.Log.{Log}
use Rattle.mx_wire.specs.declared.entry.Entry.TheVariants.{Wrote}
use Rattle.client_session.specs.Setups.{Setup as Service}
use Rattle.private_model.specs.Names.{ClientNo, LinkId}
use Rattle.private_model.specs.View.{Setup}
use Rattle.link_laws.specs.Stands.{Codes}
use Rattle.log_story.specs.Plan.{Plan, StepText}
use Rattle.log_story.specs.Servers.{may_begin}
use Rattle.log_story.specs.Telling.{told}
use Rattle.tale_world.specs.Decided.{Decided}
use Rattle.core_tables.specs.Tables.{Tabled}
use Rattle.core_tables.specs.declared.server.Server.{Server}
use Rattle.core_stands.specs.Grounds.{Ground, on}
use Rattle.core_stands.specs.Stands.{Rests, Stands}
use Rattle.core_laws.specs.writing.Planned.{IsPlanned, planned_on}
use Rattle.core_laws.proofs.OfEntry.Uneventful.{Counting, Testing}
use Rattle.core_laws.specs.entry.Calms.{is_copy}
use Rattle.core_laws.specs.entry.Tells.{ground}
use Rattle.router_laws.specs.clients.Plans.{nobody}
use Rattle.core_laws.proofs.OfLinks.Uncalled.{Sames}
use Rattle.core_laws.proofs.OfLinks.Writes.{lent_plain}
use Rattle.router_laws.proofs.OfLinks.Going.{goes_on}
use Rattle.router_laws.proofs.OfLinks.Routing.{begins_there}
use Rattle.router_laws.proofs.OfLinks.Wroting.{begins_so, due, rested, safely, step_clients}
use Rattle.router_laws.proofs.links.nobodys.writes_go.Goals as goal
use Rattle.router_laws.specs.links.Steps.{step_on}
use Rattle.router_laws.specs.links.Writes.{WritesSo}

abbrev Plans : Ground → LinkId → Tabled → Type 0
Plans g l t = (step : StepText) → step_on l t ≡ Some step → planned_on g l ≡ step

pub returns : goal.returns
returns c =
    let counting : (service : Service) → Counting service = c.counts_alone.ensures in
    let testing : (service : Service) → Testing service = c.freed_stands.ensures.test in
    let sames : (service : Service) → Sames service = c.same_stands.ensures in
    let planned : (service : Service) (g : Ground) (t now : Tabled) (l : LinkId) (offer : Offer) (count : ℕ) → Stands service g t → Plans g l t
    → (so : WritesSo l offer count t now) → IsPlanned so.server.row.link.next g l so.server.row =
    λ service g t now l offer count stands steps so. c.steps_are_planned.ensures service g t l so.server offer stands so.there so.lent steps in
    let plain : (service : Service) (g : Ground) (t now : Tabled) (l : LinkId) (offer : Offer) (count : ℕ) → Stands service g t
    → WritesSo l offer count t now → may_begin g.setup l (g.tale.wires l) g.tale ≡ true → is_copy offer.tag ≡ false =
    λ service g t now l offer count stands so. lent_plain c.rows_may_begin.ensures service g t l so.server offer stands so.there so.lent in
    let wrote : (service : Service) (g : Ground) (t now : Tabled) (l : LinkId) (offer : Offer) (count : ℕ) → Stands service g t → Plans g l t
    → WritesSo l offer count t now → Stands service (on g (told g.setup g.plan g.tale (Wrote l offer.tag (take count offer.bytes)))) now =
    λ service g t now l offer count stands steps so.
    c.writes_stand.ensures service g t now l so.server offer count so.moment stands so.there so.lent
    (planned service g t now l offer count stands steps so) so.some so.most so.same in
    record {
      goes = λ service setup codes plan log old new t now roomy l offer count decided steps so.
          let g : Ground = ground setup codes plan old log in
          goes_on service setup codes plan log (Wrote l offer.tag (take count offer.bytes)) old new t now roomy roomy nobody decided
          (λ rests. rested service setup codes plan log old new t now roomy l offer count (counting service) (testing service) (sames service) decided so rests
          (plain service g t now l offer count rests.stands so) (wrote service g t now l offer count rests.stands steps so))
          (λ rests. due service setup codes plan log old new t now roomy l offer count (counting service) (testing service) (sames service) decided so rests
          (plain service g t now l offer count rests.stands so) (wrote service g t now l offer count rests.stands steps so))
          (λ rests then.
          safely service setup codes plan log old new t now roomy l offer count (counting service) (testing service) (sames service) decided so rests
          (plain service g t now l offer count rests.stands so) (wrote service g t now l offer count rests.stands steps so)
          (c.passes_may_tell.ensures service g t l so.server offer (take count offer.bytes) rests.stands so.there so.lent
          (planned service g t now l offer count rests.stands steps so))
          (c.closes_come_first.ensures service g t l offer.tag (take count offer.bytes) rests.stands (ap (λ (row : Option Server). is_some row) so.there)));
      clients = λ service setup codes plan log old new t now roomy l offer count decided steps so rests.
          let g : Ground = ground setup codes plan old log in
          step_clients service setup codes plan log old new t now roomy l offer count (counting service) (testing service) (sames service) decided so rests
          (plain service g t now l offer count rests.stands so) (wrote service g t now l offer count rests.stands steps so);
      begins = λ service g t now l offer count stands so.
          begins_so c.rows_may_begin.ensures service g t l so.server stands so.there offer so.lent ∙ sym (begins_there l t so.server so.there);
    }
