use Rattle.std.specs.Prelude.{◌≡◌, ◌+◌, ◌||◌, ◌++◌, length, suc, Bool}
use Rattle.std.proofs.Common.{refl, ap, ◌∙◌, arith, subst, sym}
use Rattle.mx_base.specs.declared.names.ClientNo.{ClientNo}
use Rattle.mx_wire.specs.declared.entry.Entry.{Entry}
use Rattle.mx_wire.specs.declared.entry.Entry.TheVariants.{Got}
use Rattle.private_model.specs.Story.{is_client}
use Rattle.log_story.specs.Owed.{messages}
use Rattle.log_story.specs.Tale as tales
use Rattle.log_story.specs.Tale.{Tale, client_hears}
use Rattle.log_story.specs.Telling.{tale_step, told}
use Rattle.step_laws.specs.Seats.{IsSeated}
use Rattle.step_laws.specs.Steps.{IsOfOne, ended_now, told_then}
use Rattle.core_stands.specs.Grounds.{Ground, freshened, on}
use Rattle.core_stands.specs.Stands.{Rests, Stands}
use Rattle.core_laws.specs.arrival.Looks.{IsLetIn}
use Rattle.core_laws.proofs.OfEntry.Going.{tale_more}
use Rattle.core_laws.proofs.OfEntry.Resting.{one_seats}
use Rattle.core_laws.specs.entry.Kinds.{IsSpeaking}
use Rattle.core_laws.specs.entry.Tells.{AreWhoTheySay, ground}
use Rattle.core_laws.proofs.OfClients.Following.{ended_its}
use Rattle.core_laws.specs.clients.Following.{IsFollowed, IsFollowing, ended_by}
use Rattle.core_laws.specs.clients.Follows.{FollowsSo, ends_by}
use Rattle.core_laws.specs.clients.Turns.{count_by}
use Rattle.router_promises.specs.Takings.{takings_of}
use Rattle.router_laws.proofs.OfClients.Counting.{takes_called}
use Rattle.router_laws.proofs.OfClients.Entering.{entered_goes_on, log_numbers}
use Rattle.router_laws.proofs.OfClients.Finding.{found_then}
use Rattle.router_laws.proofs.OfClients.LetIn.{let_in_then}
use Rattle.router_laws.proofs.OfClients.Linking.{client_there, is_client_row, known, off_server}
use Rattle.router_laws.proofs.OfClients.Saying.{arrived_there, ends_said, following, fresh_others, over_then, rooms, said_is, speaking, spoken_due, still_then}
use Rattle.router_laws.proofs.OfDecisions.Covering.{follow_covers}
use Rattle.router_laws.proofs.clients.speaks.speaks_go.Goals as goal
use Rattle.router_laws.specs.clients.Plans.{ends_of, over_by}

pub returns : goal.returns
returns c = λ service default setup codes plan log old new t now roomy room link bytes n ordinal choices halt parting links fits safe plans so others.
    let g : Ground = ground setup codes plan old log in
    let e : Entry = Got link bytes in
    let freed : Tale = told_then setup plan g.tale e in
    let over : ClientNo → Bool = over_by new in
    let client : Rests service g t roomy → tales.Client = λ rests. client_there service g t link n so.row rests.stands so.its in
    let said : Rests service g t roomy → tales.Client = λ rests. record (client rests) { read = (client rests).read ++ bytes } in
    let follow : (rests : Rests service g t roomy) → IsFollowing service default g e (said rests) freed choices halt parting =
    λ rests.
    let speaks : IsSpeaking g link (client rests) =
    speaking service default setup codes plan log old over t now roomy room link bytes n ordinal choices halt parting links safe plans so rests
    (λ m route its routed. fits.single m route routed) (c.counts_rest.ensures service g t rests.stands plans.decided.still rests.rested) in
    let any : IsOfOne setup plan g.tale e (client_hears link bytes (client rests)) (ended_now plan freed) freed =
    c.entries_of_a_speaker.ensures.one g link bytes (client rests) (ended_now plan freed) rests.over speaks refl in
    let of_one : IsOfOne setup plan g.tale e (client_hears link bytes (client rests)) (ended_by halt parting (client rests).number) freed =
    c.entries_of_a_speaker.ensures.one g link bytes (client rests) (ended_by halt parting (client rests).number) rests.over speaks
    (ends_said service default setup codes plan log old over t now roomy room link bytes n ordinal choices halt parting links safe plans so rests any.seated) in
    let is_said : client_hears link bytes (client rests) ≡ said rests =
    said_is service default setup codes plan log old over t now roomy room link bytes n ordinal choices halt parting links safe plans so rests in
    let let_in : IsLetIn g default (said rests) =
    let_in_then g default e (said rests) (log_numbers setup plan log)
    (subst (λ (tale : Tale). AreWhoTheySay setup plan default tale.clients) (tale_more setup plan log e) fits.who)
    (subst (IsSeated freed) is_said any.seated) in
    following service default setup codes plan log old over t now roomy room link bytes n ordinal choices halt parting links safe plans so rests of_one
    fits.classes let_in in
    let mid : (rests : Rests service g t roomy) → Stands service (freshened n (on g freed)) so.heard =
    λ rests.
    let hears : Stands service (freshened n (on g (told setup plan g.tale e))) so.heard =
    c.clients_speak.ensures.kept service g t so.heard link bytes n so.row rests.stands so.its.numbered so.its.there so.going so.hears in
    c.counts_alone.ensures service (freshened n (on g (told setup plan g.tale e))) so.heard hears
    (still_then service default setup codes plan log old over t now roomy room link bytes n ordinal choices halt parting links safe plans so rests) in
    let followed : (rests : Rests service g t roomy) → IsFollowed service g e (said rests) freed ((client rests).taken + count_by choices halt) over room now =
    λ rests.
    c.follows_rest.ensures service default g t so.heard now roomy room over (λ x. is_client n x || g.fresh x) e (said rests) freed choices halt parting links
    rests
    (follow rests)
    (fresh_others service default setup codes plan log old over t now roomy room link bytes n ordinal choices halt parting links safe plans so rests) (mid rests)
    (subst (λ (k : ClientNo). FollowsSo service default k choices halt parting links so.heard now)
    (sym (known service g t link n so.row rests.stands so.its).number) so.follows)
    (over_then service default setup codes plan log old over t now roomy room link bytes n ordinal choices halt parting links safe plans so rests)
    (rooms service default setup codes plan log old over t now roomy room link bytes n ordinal choices halt parting links safe plans so rests others) in
    record {
      goes = record {
        goes =
            entered_goes_on service setup codes plan log e old new t now roomy room (ends_of n (ends_by halt parting)) plans.decided
            (record {
              rests = λ rests. (followed rests).rests;
              due = λ rests.
                  spoken_due service default setup codes plan log old over t now roomy room link bytes n ordinal choices halt parting links safe plans so rests
                  (followed rests).rests;
              off = λ rests. off_server service g t link n so.row rests.stands so.its;
            });
        takes = λ rests.
            takes_called n (count_by choices halt) g.tale (tale_step setup plan g.tale e) (client rests) (said rests)
            (known service g t link n so.row rests.stands so.its).number (known service g t link n so.row rests.stands so.its).seated refl refl
            (one_seats setup plan (said rests) g.tale e (ended_by halt parting (said rests).number) freed (follow rests).of_one
            (ended_its (said rests) (ends_by halt parting)) (follow rests).tells)
            (followed rests).counts;
      };
      finds = λ rests k at x there number.
          found_then setup plan log e (said rests) x (follow rests).of_one.seated there
          (number ∙ sym (known service g t link n so.row rests.stands so.its).number) choices halt service default n so.heard so.follows.turned
          so.follows.turns k
          (let own : ordinal ≡ suc (client rests).taken =
          so.next ∙ ap suc (arrived_there g (client rests) so.row (is_client_row service g t link n so.row rests.stands so.its) so.going) in
          omega (arith, own, at))
          (takings_of (length (messages plan (said rests))) setup plan (said rests) freed)
          (follow_covers service default g so.heard (λ x. is_client n x || g.fresh x) e (said rests) freed choices halt parting (follow rests) (mid rests)
          fits.single n (known service g t link n so.row rests.stands so.its).number)
          (c.follows_find.ensures service default g so.heard so.follows.turned (λ x. is_client n x || g.fresh x) e (said rests) freed choices halt parting n
          (known service g t link n so.row rests.stands so.its).number (follow rests) (mid rests) so.follows.turns);
    }
