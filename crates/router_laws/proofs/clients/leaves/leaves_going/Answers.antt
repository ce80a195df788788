use Rattle.std.specs.Prelude.{◌≡◌, ◌+◌, length, suc, Bool, List, []}
use Rattle.std.proofs.Common.{refl, ap, ◌∙◌, arith, subst, sym}
use Rattle.mx_base.specs.declared.names.LinkId.{LinkId}
use Rattle.private_model.specs.Names.{ClientNo, MessageName}
use Rattle.private_model.specs.Story.{Left}
use Rattle.private_model.specs.View.{Nobody}
use Rattle.log_story.specs.Owed.{messages}
use Rattle.log_story.specs.Tale as tales
use Rattle.log_story.specs.Tale.{Tale, counted, first_tale, link_in, tell, view_of}
use Rattle.log_story.specs.Telling.{tale_step}
use Rattle.step_laws.specs.Freed.{Ascend, freed_in}
use Rattle.step_laws.specs.Seats.{IsSeated, is_its}
use Rattle.step_laws.specs.Steps.{IsOfOne, ended_now, told_then}
use Rattle.step_laws.specs.Taken.{AreSingle}
use Rattle.tale_world.proofs.Links.{log_links}
use Rattle.core_stands.specs.Grounds.{Ground, on, view_on}
use Rattle.core_stands.specs.Stands.{Rests, Stands}
use Rattle.core_laws.specs.parting.Frames.{AreHomed}
use Rattle.core_laws.specs.arrival.Looks.{IsLetIn}
use Rattle.core_laws.proofs.OfEntry.Going.{tale_more}
use Rattle.core_laws.proofs.OfEntry.Resting.{one_seats}
use Rattle.core_laws.proofs.OfEntry.Uneventful.{Counting, Testing}
use Rattle.core_laws.specs.entry.Tells.{AreWhoTheySay, ground}
use Rattle.core_laws.proofs.OfClients.Following.{ended_its}
use Rattle.core_laws.specs.clients.Following.{IsFollowed, IsFollowing, ended_by}
use Rattle.core_laws.specs.clients.Follows.{FollowsSo, ends_by}
use Rattle.core_laws.specs.clients.Turns.{count_by}
use Rattle.router_promises.specs.Takings.{takings_of}
use Rattle.router_laws.proofs.OfClients.Counting.{takes_called}
use Rattle.router_laws.proofs.OfClients.Departing.{calls, moment3, of_one, rising3, seated3, seated_told, third}
use Rattle.router_laws.proofs.OfClients.Entering.{entered_goes_on, log_numbers}
use Rattle.router_laws.proofs.OfClients.Finding.{found_then}
use Rattle.router_laws.proofs.OfClients.Leaving.{IsLoss, loss_of}
use Rattle.router_laws.proofs.OfClients.LetIn.{let_in_then}
use Rattle.router_laws.proofs.OfClients.Linking.{client_there, known, off_server}
use Rattle.router_laws.proofs.OfClients.Renewing.{decided_it, first_anew, going_due, going_on, it_goes, its_apart, names, overs_then, still_anew}
use Rattle.router_laws.proofs.OfClients.Saying.{ended_is, nobody_there}
use Rattle.router_laws.proofs.OfDecisions.Covering.{follow_covers}
use Rattle.router_laws.proofs.clients.leaves.leaves_going.Goals as goal
use Rattle.router_laws.specs.clients.Plans.{ends_of, over_by}

pub returns : goal.returns
returns c = λ service default setup codes plan log e old new t now roomy room link n links ordinal choices halt parting fits lost safe plans so others.
    let g : Ground = ground setup codes plan old log in
    let over : ClientNo → Bool = over_by new in
    let counting : Counting service = c.counts_alone.ensures service in
    let testing : Testing service = c.freed_stands.ensures.test service in
    let loss : IsLoss link e = loss_of link e lost in
    let rising : Ascend (λ l. l.0) g.tale.links =
    subst (λ (ls : List LinkId). Ascend (λ l. l.0) ls) (sym (log_links setup plan log first_tale)) plans.rising in
    let on_link : Rests service g t roomy → (link_in setup g.tale link).carries ≡ Nobody =
    λ rests. nobody_there setup plan log link safe (off_server service g t link n so.row rests.stands so.its) in
    let homed : (rests : Rests service g t roomy) → AreHomed (view_on g).links (view_on g).held =
    λ rests. c.lawful_homes.ensures setup g.tale.story rests.stands.lawful in
    let first : (rests : Rests service g t roomy) → Stands service (on g (tell (Left n) g.tale)) so.leaves.left =
    λ rests.
    first_anew service default g t now roomy log over link n links ordinal choices halt parting e loss (on_link rests) so plans rests c.left_stands.ensures.anew
    c.anew_stands.ensures c.same_stands.ensures in
    let it : (rests : Rests service g t roomy) → tales.Client = λ rests. client_there service g t link n so.row rests.stands so.its in
    let freed : Tale = freed_in setup plan links (counted (tell (Left n) g.tale)) in
    let mid : (rests : Rests service g t roomy) → Stands service (on g freed) so.between =
    λ rests.
    third service g t roomy link n so.row rests so.its e loss (on_link rests) plans.decided.still links so.leaves.homes (homed rests) g.over so.leaves.left
    so.between (first rests)
    (still_anew service default g t now roomy log over link n links ordinal choices halt parting e loss (on_link rests) so plans rests)
    so.leaves.freed counting testing c.same_stands.ensures c.links_are_given_back.ensures rising in
    let told_seat : (rests : Rests service g t roomy) → IsSeated (told_then setup plan g.tale e) (it rests) =
    λ rests.
    seated_told service g t roomy link n so.row rests so.its e loss (on_link rests) plans.decided.still links so.leaves.homes (homed rests) g.over
    so.leaves.left so.between (first rests)
    (still_anew service default g t now roomy log over link n links ordinal choices halt parting e loss (on_link rests) so plans rests)
    so.leaves.freed counting testing c.same_stands.ensures c.links_are_given_back.ensures rising in
    let one : (rests : Rests service g t roomy) → IsOfOne setup plan g.tale e (it rests) (ended_by halt parting (it rests).number) freed =
    λ rests.
    of_one service g t roomy link n so.row rests so.its e loss (on_link rests) plans.decided.still links so.leaves.homes (homed rests) g.over so.leaves.left
    so.between (first rests)
    (still_anew service default g t now roomy log over link n links ordinal choices halt parting e loss (on_link rests) so plans rests)
    so.leaves.freed counting testing c.same_stands.ensures c.links_are_given_back.ensures rising (ended_by halt parting (it rests).number)
    (λ m route its routed. fits.single m route routed)
    (ended_is g e (it rests) (ends_by halt parting) over
    (decided_it service default g t now roomy log over link n links ordinal choices halt parting e loss (on_link rests) so plans rests) (told_seat rests)) in
    let let_in : (rests : Rests service g t roomy) → IsLetIn g default (it rests) =
    λ rests.
    let_in_then g default e (it rests) (log_numbers setup plan log)
    (subst (λ (tale : Tale). AreWhoTheySay setup plan default tale.clients) (tale_more setup plan log e) fits.who) (told_seat rests) in
    let follow : (rests : Rests service g t roomy) → IsFollowing service default g e (it rests) freed choices halt parting =
    λ rests.
    going_on service default g t now roomy log over link n links ordinal choices halt parting e loss (on_link rests) so plans rests freed
    (moment3 service g t roomy link n so.row rests so.its e loss (on_link rests) plans.decided.still links so.leaves.homes (homed rests) g.over so.leaves.left
    so.between (first rests)
    (still_anew service default g t now roomy log over link n links ordinal choices halt parting e loss (on_link rests) so plans rests)
    so.leaves.freed counting testing c.same_stands.ensures c.links_are_given_back.ensures rising)
    (one rests)
    (calls service g t roomy link n so.row rests so.its e loss (on_link rests) plans.decided.still links so.leaves.homes (homed rests) g.over so.leaves.left
    so.between (first rests)
    (still_anew service default g t now roomy log over link n links ordinal choices halt parting e loss (on_link rests) so plans rests)
    so.leaves.freed counting testing c.same_stands.ensures c.links_are_given_back.ensures rising
    (it_goes service default g t now roomy log over link n links ordinal choices halt parting e loss (on_link rests) so plans rests))
    fits.classes (let_in rests)
    (rising3 service g t roomy link n so.row rests so.its e loss (on_link rests) plans.decided.still links so.leaves.homes (homed rests) g.over so.leaves.left
    so.between (first rests)
    (still_anew service default g t now roomy log over link n links ordinal choices halt parting e loss (on_link rests) so plans rests)
    so.leaves.freed counting testing c.same_stands.ensures c.links_are_given_back.ensures rising) in
    let followed : (rests : Rests service g t roomy) → IsFollowed service g e (it rests) freed ((it rests).taken + count_by choices halt) over room now =
    λ rests.
    c.follows_rest.ensures service default g t so.between now roomy room over g.fresh e (it rests) freed choices halt parting [] rests
    (follow rests) (λ x apart. rests.looked x) (mid rests)
    (subst (λ (k : ClientNo). FollowsSo service default k choices halt parting [] so.between now)
    (sym (known service g t link n so.row rests.stands so.its).number) so.follows)
    (overs_then service default g t now roomy log over link n links ordinal choices halt parting e loss (on_link rests) so plans rests)
    (λ x apart full.
    others x (its_apart service default g t now roomy log over link n links ordinal choices halt parting e loss (on_link rests) so plans rests x apart) full) in
    record {
      goes = record {
        goes =
            entered_goes_on service setup codes plan log e old new t now roomy room (ends_of n (ends_by halt parting)) plans.decided
            (record {
              rests = λ rests. (followed rests).rests;
              due = λ rests.
                  going_due service default g t now roomy log over link n links ordinal choices halt parting e loss (on_link rests) so plans rests freed (mid rests)
                  (seated3 service g t roomy link n so.row rests so.its e loss (on_link rests) plans.decided.still links so.leaves.homes (homed rests) g.over
                  so.leaves.left so.between (first rests)
                  (still_anew service default g t now roomy log over link n links ordinal choices halt parting e loss (on_link rests) so plans rests)
                  so.leaves.freed counting testing c.same_stands.ensures c.links_are_given_back.ensures rising)
                  (followed rests).rests.stands;
              off = λ rests. loss.off g.tale;
            });
        takes = λ rests.
            takes_called n (count_by choices halt) g.tale (tale_step setup plan g.tale e) (it rests) (it rests)
            (known service g t link n so.row rests.stands so.its).number (known service g t link n so.row rests.stands so.its).seated refl refl
            (one_seats setup plan (it rests) g.tale e (ended_by halt parting (it rests).number) freed (one rests)
            (ended_its (it rests) (ends_by halt parting)) (loss.of_all (is_its (it rests)) g.tale))
            (followed rests).counts;
      };
      finds = λ rests k at x there number.
          found_then setup plan log e (it rests) x (told_seat rests) there (number ∙ sym (known service g t link n so.row rests.stands so.its).number) choices
          halt service default n so.between so.follows.turned so.follows.turns k
          (let own : ordinal ≡ suc (it rests).taken =
          ap (λ (m : MessageName). m.ordinal)
          (names service default g t now roomy log over link n links ordinal choices halt parting e loss (on_link rests) so plans rests) in
          omega (arith, own, at))
          (takings_of (length (messages plan (it rests))) setup plan (it rests) freed)
          (follow_covers service default g so.between g.fresh e (it rests) freed choices halt parting (follow rests) (mid rests) fits.single n
          (known service g t link n so.row rests.stands so.its).number)
          (c.follows_find.ensures service default g so.between so.follows.turned g.fresh e (it rests) freed choices halt parting n
          (known service g t link n so.row rests.stands so.its).number (follow rests) (mid rests) so.follows.turns);
    }
