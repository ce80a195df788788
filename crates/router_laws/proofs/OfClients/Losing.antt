-- How a client leaves whose link is lost: it had ended; or it ends at once; or it begins anew and goes on.
use Rattle.std.specs.Prelude.{◌≡◌, ◌⊎◌, ◌<◌, ◌^◌, ◌&&◌, ◌||◌, ◌+◌, ◌≤◌, ℕ, suc, nat_le, not, Bool, true, false, All, if◌then◌else◌, is_some, slice_index_or, List, [], ◌∷◌, Option, Some, None}
use Rattle.std.specs.Option.{option_map_or}
use Rattle.std.proofs.Common.{refl, sym, ap, ◌∙◌, subst, arith, inl, inr}
use Rattle.std.proofs.lemmas.Bool.{false≢true, true≢false}
use Rattle.std.proofs.lemmas.List.Elements.{All-cons, All-nil, All-weaker}
use Rattle.std.proofs.lemmas.Option.{none-some}
use Rattle.mx_base.specs.declared.names.Hostgroup.{Hostgroup}
use Rattle.mx_base.specs.declared.names.LinkId.{LinkId}
use Rattle.mx_wire.specs.Log.{Log, opened_links}
use Rattle.mx_wire.specs.declared.entry.Entry.{Entry}
use Rattle.client_session.specs.Setups.{Setup as Service}
use Rattle.server_side.specs.Account.{Account}
use Rattle.private_model.proofs.Maps.{client_of, same_number}
use Rattle.private_model.specs.Names.{ClientNo}
use Rattle.private_model.specs.Story.{Freed, Left, is_client}
use Rattle.private_model.specs.View.{Held, Nobody, Setup, View, present}
use Rattle.log_story.specs.Clients.{captures_first, client_goes_on, is_answered, is_event_of, is_up, waits_for_capture}
use Rattle.log_story.specs.Owed.{has_room, messages, name_of}
use Rattle.log_story.specs.Plan.{LastWord, Plan, Route, gives_up, is_before, is_by_now, word_at}
use Rattle.log_story.specs.Servers.{freed_if_done, links_are_freed}
use Rattle.log_story.specs.Tale as tales
use Rattle.log_story.specs.Tale.{Tale, counted, is_to_server, link_in, tell, view_of}
use Rattle.log_story.specs.Telling.{tale_step, told}
use Rattle.client_desk.specs.Desks.{session_of}
use Rattle.client_desk.specs.declared.work.Work.{Work}
use Rattle.client_seat.specs.Seats.{account_in, ended, is_ended}
use Rattle.client_seat.specs.Stands.{IsHeardIn}
use Rattle.client_seat.specs.Takings.{begun_anew}
use Rattle.client_seat.specs.declared.phase.Phase.{Phase}
use Rattle.client_seat.specs.declared.phase.Phase.TheVariants as phase
use Rattle.client_seat.specs.declared.seat.Seat.{Seat}
use Rattle.desk_laws.specs.Stands.{IsPlaced}
use Rattle.step_laws.proofs.Apart.{counted_apart, freed_apart}
use Rattle.step_laws.proofs.Giving.{kept_in, none_in, none_left}
use Rattle.step_laws.proofs.Others.{idle_by}
use Rattle.step_laws.proofs.Seating.{counted_seats}
use Rattle.step_laws.proofs.Stepping.{step_one}
use Rattle.step_laws.proofs.Taking.{called, idle_takes}
use Rattle.step_laws.specs.Freed.{Ascend, NoneDone, freed_in, is_among}
use Rattle.step_laws.specs.Seats.{IsSeated, is_its, seats}
use Rattle.step_laws.specs.Steps.{IsOfOne, ended_now, ends_now, leave, told_then}
use Rattle.step_laws.specs.Taken.{ArePassedBut, AreSingle, IsIdle, IsPassed, all_taken, is_called}
use Rattle.core_tables.specs.Parting.{left_in}
use Rattle.core_tables.specs.Tables.{IsSame, Tabled}
use Rattle.core_tables.specs.declared.client.Client.{Client}
use Rattle.core_stands.specs.Clients.{IsClient, IsClientOr, IsGoing, IsOver, IsOwing, IsPhase, IsWorkingOr}
use Rattle.core_stands.specs.Grounds.{Ground, ending, on, view_on}
use Rattle.core_stands.specs.Stands.{IsAt, IsCalm, Rests, Stands}
use Rattle.core_laws.specs.parting.Frames.{AreHomed}
use Rattle.core_laws.specs.parting.Partings.{HasLives, IsAnew, IsEnding, IsLeaving}
use Rattle.core_laws.proofs.OfArrival.Finding.{client-same, client-true}
use Rattle.core_laws.proofs.OfArrival.Idling.{down-idles}
use Rattle.core_laws.proofs.OfEntry.Composing.{rest_of_nobody, rest_of_one, told_alone}
use Rattle.core_laws.proofs.OfEntry.Lists.{seated_of}
use Rattle.core_laws.proofs.OfEntry.Uneventful.{Counting, Testing, counted_rests}
use Rattle.core_laws.specs.entry.Entries.{IsOfNobody, behind}
use Rattle.core_laws.specs.entry.Freeing.{all_freed}
use Rattle.core_laws.specs.entry.Kinds.{IsStill}
use Rattle.core_laws.proofs.OfClients.Ending.{ends_so, leaves_so}
use Rattle.core_laws.proofs.OfClients.Facts.{has_lives}
use Rattle.core_laws.specs.clients.Turns.{MayLeave}
use Rattle.router_laws.proofs.OfClients.Closing.{left_undone, over_there}
use Rattle.router_laws.proofs.OfClients.Duing.{ended_before, moment_more}
use Rattle.router_laws.proofs.OfClients.Leaving.{IsLoss, all_theirs, all_uncalled, freed_is, its_event, left_but, spared_by, told_left}
use Rattle.router_laws.proofs.OfClients.Linking.{alone_there, client_there, is_client_row, known, link_is, row_there, unwritten}
use Rattle.router_laws.proofs.OfClients.Saying.{ended_is, goes_there, not_before}
use Rattle.router_laws.proofs.OfClients.Wroting.{idle_moves}
use Rattle.router_laws.specs.clients.Behind.{IsDueBehind}
use Rattle.router_laws.specs.clients.Leaves.{IsGivenBack, LeavesAgain, LeavesAtOnce}
use Rattle.router_laws.specs.clients.Plans.{IsDecided, ends_of, nobody}
use Rattle.router_laws.specs.clients.Speaks.{IsLinkOf}

-- The laws by which it goes.

abbrev pub Alike : Type 0
Alike = (service : Service) (g : Ground) (t other : Tabled) → Stands service g t → IsSame other t → Stands service g other

abbrev pub Ends : Type 0
Ends = (service : Service) (g : Ground) (t : Tabled) (client : tales.Client) (row : Client) (by : Seat → Seat) → Stands service g t
    → IsSeated g.tale client → t.clients client.number ≡ Some row → HasLives (view_on g) client.number
    → IsLeaving (on g (tell (Left client.number) g.tale)) client (by row.desk.seat)
    → IsEnding (on g (tell (Left client.number) g.tale)) client (by row.desk.seat)
    → Stands service (ending client.number (on g (tell (Left client.number) g.tale))) (left_in client.number by t)

abbrev pub Frees : Type 0
Frees = (service : Service) (g : Ground) (t : Tabled) (links : List LinkId) → Stands service g t
    → All (λ (l : LinkId). is_to_server g.tale l ≡ true) links → Stands service (on g (freed_in g.setup g.plan links g.tale)) (all_freed links t)

-- One that is over leaves again, with the seat that it has.

ended_at : (at : Phase) → is_ended at ≡ true → at ≡ phase.Ended
ended_at phase.LoggingIn is = absurd (false≢true is)
ended_at (phase.Serving login) is = absurd (false≢true is)
ended_at phase.Ended is = refl

module _ (service : Service) (g : Ground) (t : Tabled) (client : tales.Client) (row : Client) (stands : Stands service g t)
    (seated : IsSeated g.tale client) (there : t.clients client.number ≡ Some row) (over : g.over client.number ≡ true) where
  own : IsClient g client row
  own = subst (λ (r : Option Client). IsClientOr g client r) there (seated_of (IsAt g t) g.tale client seated stands.clients.each).row

  phase_by : (b : Bool) → IsPhase b g client row → b ≡ true
  phase_by true is = refl
  phase_by false is = absurd (false≢true (sym is.going ∙ over))

  pub phase_over : is_ended row.desk.seat.phase ≡ true
  phase_over = phase_by (is_ended row.desk.seat.phase) own.phase

  at : row.desk.seat.phase ≡ phase.Ended
  at = ended_at row.desk.seat.phase phase_over

  over_by : (b : Bool) → b ≡ true → IsPhase b g client row → IsOver g client row
  over_by true is phase_is = phase_is
  over_by false is phase_is = absurd (false≢true is)

  over_row : IsOver g client row
  over_row = over_by (is_ended row.desk.seat.phase) phase_over own.phase

  abbrev after : Ground
  after = on g (tell (Left client.number) g.tale)

  leaving : IsLeaving after client row.desk.seat
  leaving =
      let owed = subst (λ (p : Phase). IsOwing p (g.fresh client.number) g client row.desk.seat) at own.owed in
      record {
        who = own.who;
        heard = subst (λ (p : Phase). IsHeardIn p g.plan client row.desk.seat) (sym at) tt;
        owed = subst (λ (p : Phase). IsOwing p (g.fresh client.number) after client row.desk.seat) (sym at)
            (record { written = owed.written; size = owed.size; front = owed.front });
        placed = subst (λ (p : Phase). IsPlaced p (view_on after) client.number row.desk.seat.place) (sym at) tt;
      }

  ends : IsEnding after client row.desk.seat
  ends = record { ended = phase_over; told = λ worded ordinal below. over_row.told worded ordinal below }

  same_seat : (by : Seat → Seat) → by row.desk.seat ≡ row.desk.seat → Ends → MayLeave row
      → Stands service (ending client.number after) (left_in client.number by t)
  same_seat by same law lives =
      law service g t client row by stands seated there (has_lives service g t client row stands seated there lives)
      (subst (IsLeaving after client) (sym same) leaving) (subst (IsEnding after client) (sym same) ends)

  ended_same : ended row.desk.seat ≡ row.desk.seat
  ended_same = λ i. record row.desk.seat { phase = sym at i }

  still_over : (x : ClientNo) (b : Bool) → is_client client.number x ≡ b → (b || g.over x) ≡ g.over x
  still_over x false other = refl
  still_over x true same = sym (ap g.over (sym (client-true client.number x same)) ∙ over)

  over_same : (ending client.number after).over ≡ g.over
  over_same = λ i x. still_over x (is_client client.number x) refl i

  pub left_again : (by : Seat → Seat) → by row.desk.seat ≡ row.desk.seat → Ends → MayLeave row → Stands service after (left_in client.number by t)
  left_again by same law lives =
      subst (λ (o : ClientNo → Bool). Stands service (record after { over = o }) (left_in client.number by t)) over_same (same_seat by same law lives)

  pub ended_again : Ends → MayLeave row → Stands service after (left_in client.number ended t)
  ended_again law lives = left_again ended ended_same law lives

-- It had ended.

module _ (service : Service) (g : Ground) (t now : Tabled) (roomy : ClientNo → Bool) (log : Log) (over : ClientNo → Bool) (link : LinkId) (c : ClientNo)
    (e : Entry) (loss : IsLoss link e) (nobody_on : (link_in g.setup g.tale link).carries ≡ Nobody) (so : LeavesAgain link c t now)
    (decided : IsDecided g nobody over) (rests : Rests service g t roomy) where
  abbrev made : Tale
  made = tell (Left c) g.tale

  abbrev client : tales.Client
  client = client_there service g t link c so.row rests.stands so.its

  number : client.number ≡ c
  number = (known service g t link c so.row rests.stands so.its).number

  told_as : told g.setup g.plan g.tale e ≡ made
  told_as = told_left service g t link c so.row rests.stands so.its e loss nobody_on decided.still

  its_over : g.over c ≡ true
  its_over = over_there service g t link c so.row rests.stands so.its so.over

  pub again_stands : Alike → Ends → Stands service (on g made) now
  again_stands alike law =
      alike service (on g made) (left_in c (λ (seat : Seat). seat) t) now
      (subst (λ (n : ClientNo). Stands service (on g (tell (Left n) g.tale)) (left_in n (λ (seat : Seat). seat) t)) number
      (left_again service g t client so.row rests.stands (known service g t link c so.row rests.stands so.its).seated
      (row_there service g t link c so.row rests.stands so.its) (ap g.over number ∙ its_over) (λ (seat : Seat). seat) refl law so.lives)) so.same

  or_nobody : (a : Bool) → a ≡ (a || false)
  or_nobody true = refl
  or_nobody false = refl

  same_over : over ≡ g.over
  same_over = λ i. λ n. (decided.overs n ∙ sym (or_nobody (g.over n))) i

  still_so : (x : tales.Client) → IsStill g x → IsStill (on g made) x
  still_so x still = record { keeps = still.keeps; word = still.word }

  all_still : All (IsStill (on g made)) made.clients
  all_still = All-weaker (IsStill g) (IsStill (on g made)) still_so g.tale.clients decided.still

  -- it isn't called

  and_false : (a : Bool) → (a && false) ≡ false
  and_false true = refl
  and_false false = refl

  not_called_by : (x : tales.Client) → (is_client x.number c ≡ false → is_called g.plan (suc g.tale.moment) (view_on g) e x ≡ false)
      → is_called g.plan (suc g.tale.moment) (view_on g) e x ≡ false
  not_called_by x other = by (is_client x.number c) refl where
    by : (b : Bool) → is_client x.number c ≡ b → is_called g.plan (suc g.tale.moment) (view_on g) e x ≡ false
    by false apart = other apart
    by true same =
        let before : is_before (suc g.tale.moment) (g.plan.ends x.number) ≡ true =
        ended_before g.tale.moment (g.plan.ends x.number)
        (sym (rests.over x.number) ∙ ap g.over (client_of x.number c same) ∙ its_over) in
        ap (λ (b : Bool). (is_event_of (view_on g) x e || gives_up g.plan (suc g.tale.moment) (name_of x x.taken)) && not b) before
        ∙ and_false (is_event_of (view_on g) x e || gives_up g.plan (suc g.tale.moment) (name_of x x.taken))

  none_called : All (λ (x : tales.Client). is_called g.plan (suc g.tale.moment) (view_on g) e x ≡ false) g.tale.clients
  none_called = λ k d within.
      not_called_by (slice_index_or g.tale.clients k d)
      (all_uncalled service g t link c so.row rests.stands so.its e loss nobody_on decided.still k d within)

  module _ (counting : Counting service) (testing : Testing service) (homed : AreHomed (view_on g).links (view_on g).held)
      (stands : Stands service (on g made) now) where
    stands_then : Stands service (on g (counted made)) now
    stands_then = counting (on g made) now stands all_still

    undone : NoneDone g.setup g.plan (counted made)
    undone =
        counted_rests service testing (on g made) now stands stands_then
        (left_undone service g t link c so.row rests.stands so.its so.over homed rests.rested)

    of_none : IsOfNobody g e
    of_none = record {
      unfreed = subst (λ (tale : Tale). NoneDone g.setup g.plan (counted tale)) (sym told_as) undone;
      uncalled = subst (λ (tale : Tale). All (λ (x : tales.Client). is_called g.plan (counted tale).moment (view_on g) e x ≡ false) (counted tale).clients)
          (sym told_as) none_called;
      endless = decided.ends;
    }

    step_is : tale_step g.setup g.plan g.tale e ≡ counted made
    step_is = told_alone service g t now roomy roomy e rests of_none ∙ ap counted told_as

    again_rests : Rests service (behind g e g.over) now roomy
    again_rests =
        rest_of_nobody service g t now roomy roomy e rests of_none (is_client c) (loss.of_all (is_client c) g.tale)
        (spared_by service g t link c so.row rests.stands so.its e loss nobody_on decided.still (is_client c) (λ n apart. apart))
        (subst (λ (tale : Tale). Stands service (on g (counted tale)) now) (sym told_as) stands_then) (λ n other full. full)
        (λ x seated its going full. absurd (true≢false (sym (ap g.over (sym (client-true c x.number its)) ∙ its_over) ∙ going)))

    pub again_entered : Rests service (behind g e over) now roomy
    again_entered = subst (λ (x : ClientNo → Bool). Rests service (behind g e x) now roomy) (sym same_over) again_rests

    pub again_clients : (tale_step g.setup g.plan g.tale e).clients ≡ g.tale.clients
    again_clients = ap (λ (tale : Tale). tale.clients) step_is

  pub again_due : IsDueBehind g log e nobody over now
  again_due = record {
    writes = λ x seated. inl (unwritten e loss.silent x.link);
    unread = λ x seated is. loss.unread x.link;
    says = λ was x seated on its going. absurd (false≢true its);
    there = λ x seated its. absurd (false≢true its);
    comes = λ x seated come. absurd (loss.none_comes g.tale x come);
  }
