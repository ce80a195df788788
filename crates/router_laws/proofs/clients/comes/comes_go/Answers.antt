use Rattle.std.specs.Prelude.{◌≡◌, length}
use Rattle.std.proofs.Common.{arith, refl}
use Rattle.mx_wire.specs.Log.{accepted_links}
use Rattle.private_model.specs.Names.{ClientNo}
use Rattle.log_story.specs.Tale.{counted}
use Rattle.step_laws.specs.Freed.{NoneDone}
use Rattle.core_stands.specs.Grounds.{Ground}
use Rattle.core_stands.specs.Stands.{Rests}
use Rattle.mx_wire.specs.declared.entry.Entry.TheVariants.{Accepted}
use Rattle.core_laws.specs.arrival.Comes.{IsComing, newest}
use Rattle.core_laws.specs.entry.Tells.{ground}
use Rattle.router_laws.proofs.OfClients.Coming.{as_newest, calm, coming_so, kept_it, number_is, served_due, served_rests}
use Rattle.router_laws.proofs.OfClients.Entering.{entered_goes_on}
use Rattle.router_laws.proofs.clients.comes.comes_go.Goals as goal
use Rattle.router_laws.specs.clients.Plans.{nobody, over_by}

pub returns : goal.returns
returns c = λ service default setup codes plan log old new t now roomy port link salt n fits fresh counts plans so.
    let g : Ground = ground setup codes plan old log in
    let tally : length g.tale.clients ≡ length (accepted_links log) = (c.tales_follow.ensures setup plan log).clients in
    let count : n ≡ (newest g port link salt).number = number_is g port link salt n log tally counts in
    let undone : Rests service g t roomy → NoneDone setup plan (counted g.tale) =
    λ rests. c.counts_rest.ensures service g t rests.stands plans.decided.still rests.rested in
    let coming : (rests : Rests service g t roomy) → IsComing g port link salt =
    λ rests.
    coming_so setup codes plan old log port link salt n fresh count plans.decided.still plans.unrouted plans.going
    (c.strangers_are_unseen.ensures setup plan log n (λ m route routed. fits.single m route routed) rests.stands.lawful
    (omega (arith, counts, tally))) in
    entered_goes_on service setup codes plan log (Accepted port link salt) old new t now roomy roomy nobody plans.decided
    (record {
      rests = λ rests.
          served_rests service g t now roomy log (over_by new) port link salt n fresh count plans.decided plans.kept plans.going so rests
          (c.arrivals_rest.ensures service g t now roomy port link salt so.statements so.note rests (coming rests) (so.none refl)
          (calm service g t now roomy log (over_by new) port link salt n fresh count plans.decided plans.kept plans.going so rests)
          (kept_it service g t now roomy log (over_by new) port link salt n fresh count plans.decided plans.kept plans.going so rests)
          (as_newest service g t now roomy log (over_by new) port link salt n fresh count plans.decided plans.kept plans.going so rests));
      due = λ rests.
          served_due service g t now roomy log (over_by new) port link salt n fresh count plans.decided plans.kept plans.going so rests (undone rests);
      off = λ rests. tt;
    })
