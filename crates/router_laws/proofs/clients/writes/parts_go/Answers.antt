use Rattle.private_model.specs.Story.{Left}
use Rattle.mx_wire.specs.declared.entry.Entry.TheVariants.{Closed}
use Rattle.log_story.specs.Tale.{tell}
use Rattle.step_laws.specs.Freed.{NoneDone}
use Rattle.core_stands.specs.Grounds.{Ground, on}
use Rattle.core_stands.specs.Stands.{Rests, Stands}
use Rattle.core_laws.proofs.OfEntry.Uneventful.{Counting, Testing}
use Rattle.core_laws.specs.entry.Tells.{ground}
use Rattle.router_laws.proofs.OfClients.Closing.{closed_due, closed_entered, left_undone, over_there, stands_gone}
use Rattle.router_laws.proofs.OfClients.Entering.{entered_goes_on}
use Rattle.router_laws.proofs.clients.writes.parts_go.Goals as goal
use Rattle.router_laws.specs.clients.Plans.{nobody, over_by}

pub returns : goal.returns
returns c = λ service default setup codes plan log old new t now roomy link n fits decided so.
    let g : Ground = ground setup codes plan old log in
    let counting : Counting service = c.counts_alone.ensures service in
    let testing : Testing service = c.freed_stands.ensures.test service in
    let undone : Rests service g t roomy → NoneDone g.setup g.plan (tell (Left n) g.tale) = λ rests.
    left_undone service g t link n so.row rests.stands so.its so.over (c.lawful_homes.ensures setup g.tale.story rests.stands.lawful) rests.rested in
    let stands : Rests service g t roomy → Stands service (on g (tell (Left n) g.tale)) now = λ rests.
    stands_gone service g t now link n so.row rests.stands so.its so.over so.same
    (c.clients_are_forgotten.ensures service g t now n rests.stands (over_there service g t link n so.row rests.stands so.its so.over) so.same)
    (λ x found was other. c.clients_stay.ensures g x found (Left n) was other)
    (λ l found was elsewhere spares. c.servers_stay.ensures.all g now l found (Left n) was elsewhere spares (rests.stands.lawful, tt)) in
    entered_goes_on service setup codes plan log (Closed link) old new t now roomy roomy nobody decided
    (record {
      rests = λ rests. closed_entered service g t now roomy log (over_by new) link n so decided rests counting testing (undone rests) (stands rests);
      due = λ rests. closed_due service g t now roomy log (over_by new) link n so decided rests counting testing (undone rests) (stands rests);
      off = λ rests. tt;
    })
