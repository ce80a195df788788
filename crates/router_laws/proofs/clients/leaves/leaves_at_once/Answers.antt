use Rattle.std.specs.Prelude.{◌≡◌, Bool, true, List}
use Rattle.std.proofs.Common.{subst, sym}
use Rattle.mx_base.specs.declared.names.LinkId.{LinkId}
use Rattle.private_model.specs.Names.{ClientNo}
use Rattle.private_model.specs.View.{Nobody}
use Rattle.log_story.specs.Tale.{first_tale, link_in}
use Rattle.log_story.specs.Telling.{tale_step}
use Rattle.step_laws.specs.Freed.{Ascend}
use Rattle.step_laws.specs.Taken.{AreSingle}
use Rattle.tale_world.proofs.Links.{log_links}
use Rattle.core_stands.specs.Grounds.{Ground}
use Rattle.core_stands.specs.Stands.{Rests}
use Rattle.core_laws.proofs.OfEntry.Uneventful.{Counting, Testing}
use Rattle.core_laws.specs.entry.Tells.{ground}
use Rattle.router_laws.proofs.OfClients.Counting.{takes_none}
use Rattle.router_laws.proofs.OfClients.Departing.{at_once_clients, at_once_due, at_once_rests}
use Rattle.router_laws.proofs.OfClients.Entering.{entered_goes_on}
use Rattle.router_laws.proofs.OfClients.Leaving.{IsLoss, loss_of}
use Rattle.router_laws.proofs.OfClients.Linking.{off_server}
use Rattle.router_laws.proofs.OfClients.Saying.{nobody_there}
use Rattle.router_laws.proofs.clients.leaves.leaves_at_once.Goals as goal
use Rattle.router_laws.specs.clients.Plans.{ends_of, over_by}

pub returns : goal.returns
returns c = λ service default setup codes plan log e old new t now roomy room link n links fits lost safe plans so others.
    let g : Ground = ground setup codes plan old log in
    let over : ClientNo → Bool = over_by new in
    let counting : Counting service = c.counts_alone.ensures service in
    let testing : Testing service = c.freed_stands.ensures.test service in
    let loss : IsLoss link e = loss_of link e lost in
    let single : AreSingle plan (λ x. true) = λ m route its routed. fits.single m route routed in
    let rising : Ascend (λ l. l.0) g.tale.links =
    subst (λ (ls : List LinkId). Ascend (λ l. l.0) ls) (sym (log_links setup plan log first_tale)) plans.rising in
    let on_link : Rests service g t roomy → (link_in setup g.tale link).carries ≡ Nobody =
    λ rests. nobody_there setup plan log link safe (off_server service g t link n so.row rests.stands so.its) in
    record {
      goes =
          entered_goes_on service setup codes plan log e old new t now roomy room (ends_of n true) plans.decided
          (record {
            rests = λ rests.
                at_once_rests service g t now roomy room log over link n links e loss (on_link rests) so plans.decided plans.wordless_now plans.unrouted single rests
                rising others c.left_stands.ensures.ends c.same_stands.ensures c.links_are_given_back.ensures counting testing
                (c.lawful_homes.ensures setup g.tale.story rests.stands.lawful) (λ tale o tables stands. c.lawful_homes.ensures setup tale.story stands.lawful);
            due = λ rests.
                at_once_due service g t now roomy room log over link n links e loss (on_link rests) so plans.decided plans.wordless_now plans.unrouted single rests
                rising others;
            off = λ rests. loss.off g.tale;
          });
      takes = λ rests.
          takes_none n g.tale (tale_step setup plan g.tale e)
          (at_once_clients service g t now roomy room log over link n links e loss (on_link rests) so plans.decided plans.wordless_now plans.unrouted single rests
          rising others c.left_stands.ensures.ends c.same_stands.ensures c.links_are_given_back.ensures counting testing
          (c.lawful_homes.ensures setup g.tale.story rests.stands.lawful) (λ tale o tables stands. c.lawful_homes.ensures setup tale.story stands.lawful));
    }
