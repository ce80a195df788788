use Rattle.std.specs.Prelude.{◌≡◌, ◌<◌, length, suc, true}
use Rattle.std.proofs.Common.{ap, ◌∙◌, sym, subst, arith}
use Rattle.mx_wire.specs.Log.{accepted_links}
use Rattle.private_model.specs.Names.{ClientNo}
use Rattle.log_story.specs.Plan.{LastWord}
use Rattle.log_story.specs.Tale.{counted, view_of}
use Rattle.step_laws.specs.Freed.{NoneDone}
use Rattle.step_laws.specs.Steps.{told_then}
use Rattle.core_stands.specs.Grounds.{Ground, ending}
use Rattle.core_stands.specs.Stands.{Rests, Stands}
use Rattle.mx_wire.specs.declared.entry.Entry.TheVariants.{Accepted}
use Rattle.core_laws.specs.parting.Frames.{AreHomed}
use Rattle.core_laws.specs.arrival.Comes.{IsComing, accepted, away_word, newest}
use Rattle.core_laws.specs.entry.Tells.{ground}
use Rattle.router_laws.proofs.OfClients.Coming.{away_due, away_newest, away_rests, coming_so, number_is}
use Rattle.router_laws.proofs.OfClients.Entering.{entered_goes_on}
use Rattle.router_laws.proofs.clients.comes.turned_away_go.Goals as goal
use Rattle.router_laws.specs.clients.Plans.{PlansComing, ends_of, over_by}

pub returns : goal.returns
returns c = λ service default setup codes plan log old new t now roomy port link salt n fits fresh counts plans so.
    let g : Ground = ground setup codes plan old log in
    let p : PlansComing g n (ends_of n true) (over_by new) = plans.coming in
    let tally : length g.tale.clients ≡ length (accepted_links log) = (c.tales_follow.ensures setup plan log).clients in
    let count : n ≡ (newest g port link salt).number = number_is g port link salt n log tally counts in
    let undone : Rests service g t roomy → NoneDone setup plan (counted g.tale) =
    λ rests. c.counts_rest.ensures service g t rests.stands p.decided.still rests.rested in
    let coming : (rests : Rests service g t roomy) → IsComing g port link salt =
    λ rests.
    coming_so setup codes plan old log port link salt n fresh count p.decided.still p.unrouted p.going
    (c.strangers_are_unseen.ensures setup plan log n (λ m route routed. fits.single m route routed) rests.stands.lawful (omega (arith, counts, tally))) in
    let away : (rests : Rests service g t roomy) → Stands service (ending (newest g port link salt).number (accepted port link salt g)) so.between =
    λ rests.
    c.clients_are_turned_away.ensures service g t so.between port link salt so.comes.statements so.comes.note rests.stands (coming rests)
    (ap plan.words (sym count) ∙ plans.word)
    (away_newest service g t now roomy log (over_by new) port link salt n fresh count p.decided p.kept p.going so rests) in
    let homed : (rests : Rests service g t roomy)
    → AreHomed (view_of setup (told_then setup plan g.tale (Accepted port link salt))).links (view_of setup (told_then setup plan g.tale (Accepted port link salt))).held =
    λ rests. c.lawful_homes.ensures setup g.tale.story rests.stands.lawful in
    entered_goes_on service setup codes plan log (Accepted port link salt) old new t now roomy roomy (ends_of n true) p.decided
    (record {
      rests = λ rests.
          away_rests service g t now roomy log (over_by new) port link salt n fresh count p.decided p.kept p.going so rests (undone rests)
          c.same_stands.ensures c.left_stands.ensures.ends (away rests) (homed rests);
      due = λ rests.
          away_due service g t now roomy log (over_by new) port link salt n fresh count p.decided p.kept p.going so rests (undone rests)
          c.same_stands.ensures c.left_stands.ensures.ends (away rests) (homed rests);
      off = λ rests. tt;
    })
