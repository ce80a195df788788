use Rattle.std.specs.Prelude.{◌||◌}
use Rattle.mx_wire.specs.declared.entry.Entry.TheVariants.{Wrote}
use Rattle.private_model.specs.Story.{is_client}
use Rattle.log_story.specs.Telling.{told}
use Rattle.core_stands.specs.Grounds.{Ground, on}
use Rattle.core_stands.specs.Stands.{Rests, Stands}
use Rattle.core_laws.proofs.OfEntry.Uneventful.{Counting, Testing}
use Rattle.core_laws.specs.entry.Entries.{behind}
use Rattle.core_laws.specs.entry.Tells.{ground}
use Rattle.router_laws.proofs.OfClients.Entering.{entered_goes_on}
use Rattle.router_laws.proofs.OfClients.Linking.{off_server}
use Rattle.router_laws.proofs.OfClients.Wroting.{calm, few, sized, wrote_due, wrote_rests}
use Rattle.router_laws.proofs.clients.writes.client_writes_go.Goals as goal
use Rattle.router_laws.specs.clients.Plans.{nobody, over_by}

pub returns : goal.returns
returns c = λ service default setup codes plan log old new t now roomy room link tag bytes count n fits decided so.
    let g : Ground = ground setup codes plan old log in
    let counting : Counting service = c.counts_alone.ensures service in
    let testing : Testing service = c.freed_stands.ensures.test service in
    let stands : Rests service g t roomy → Stands service (on g (told g.setup g.plan g.tale (Wrote link tag bytes))) now = λ rests.
    c.clients_get.ensures.sent service g t now link tag bytes n so.row rests.stands so.its.numbered so.its.there
    (few service g t now roomy room log (over_by new) link tag bytes count n so decided rests)
    (sized service g t now roomy room log (over_by new) link tag bytes count n so decided rests) in
    let wide : Rests service g t roomy → Rests service (behind g (Wrote link tag bytes) g.over) now (λ other. is_client n other || roomy other) = λ rests.
    c.writes_to_clients_rest.ensures service g t now roomy link tag bytes n so.row rests so.its.numbered so.its.there
    (few service g t now roomy room log (over_by new) link tag bytes count n so decided rests)
    (calm service g t now roomy room log (over_by new) link tag bytes count n so decided rests)
    (sized service g t now roomy room log (over_by new) link tag bytes count n so decided rests) in
    entered_goes_on service setup codes plan log (Wrote link tag bytes) old new t now roomy room nobody decided
    (record {
      rests = λ rests.
          wrote_rests service g t now roomy room log (over_by new) link tag bytes count n so decided rests counting testing (stands rests) (wide rests);
      due = λ rests. wrote_due service g t now roomy room log (over_by new) link tag bytes count n so decided rests;
      off = λ rests. off_server service g t link n so.row rests.stands so.its;
    })
