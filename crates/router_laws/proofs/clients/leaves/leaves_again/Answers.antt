use Rattle.std.specs.Prelude.{◌≡◌}
use Rattle.private_model.specs.Story.{Left}
use Rattle.private_model.specs.View.{Nobody}
use Rattle.log_story.specs.Tale.{link_in, tell}
use Rattle.log_story.specs.Telling.{tale_step}
use Rattle.core_stands.specs.Grounds.{Ground, on}
use Rattle.core_stands.specs.Stands.{Rests, Stands}
use Rattle.core_laws.proofs.OfEntry.Uneventful.{Counting, Testing}
use Rattle.core_laws.specs.entry.Tells.{ground}
use Rattle.router_laws.proofs.OfClients.Counting.{takes_none}
use Rattle.router_laws.proofs.OfClients.Entering.{entered_goes_on}
use Rattle.router_laws.proofs.OfClients.Leaving.{IsLoss, loss_of}
use Rattle.router_laws.proofs.OfClients.Linking.{off_server}
use Rattle.router_laws.proofs.OfClients.Losing.{again_clients, again_due, again_entered, again_stands}
use Rattle.router_laws.proofs.OfClients.Saying.{nobody_there}
use Rattle.router_laws.proofs.clients.leaves.leaves_again.Goals as goal
use Rattle.router_laws.specs.clients.Plans.{nobody, over_by}

pub returns : goal.returns
returns c = λ service default setup codes plan log e old new t now roomy link n fits lost safe decided so.
    let g : Ground = ground setup codes plan old log in
    let counting : Counting service = c.counts_alone.ensures service in
    let testing : Testing service = c.freed_stands.ensures.test service in
    let loss : IsLoss link e = loss_of link e lost in
    let on_link : Rests service g t roomy → (link_in setup g.tale link).carries ≡ Nobody =
    λ rests. nobody_there setup plan log link safe (off_server service g t link n so.row rests.stands so.its) in
    let stands : Rests service g t roomy → Stands service (on g (tell (Left n) g.tale)) now =
    λ rests. again_stands service g t now roomy log (over_by new) link n e loss (on_link rests) so decided rests c.same_stands.ensures c.left_stands.ensures.ends in
    record {
      goes =
          entered_goes_on service setup codes plan log e old new t now roomy roomy nobody decided
          (record {
            rests = λ rests.
                again_entered service g t now roomy log (over_by new) link n e loss (on_link rests) so decided rests counting testing
                (c.lawful_homes.ensures setup g.tale.story rests.stands.lawful) (stands rests);
            due = λ rests. again_due service g t now roomy log (over_by new) link n e loss (on_link rests) so decided rests;
            off = λ rests. loss.off g.tale;
          });
      takes = λ rests.
          takes_none n g.tale (tale_step setup plan g.tale e)
          (again_clients service g t now roomy log (over_by new) link n e loss (on_link rests) so decided rests counting testing
          (c.lawful_homes.ensures setup g.tale.story rests.stands.lawful) (stands rests));
    }
