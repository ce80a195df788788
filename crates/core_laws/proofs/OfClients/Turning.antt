-- A client's turns, one by one.
use Rattle.std.specs.Prelude.{◌≡◌, ◌<◌, ◌≤◌, ◌+◌, ◌||◌, ℕ, zero, suc, length, Bool, true, false, not, ◌&&◌, is_some, if◌then◌else◌, slice_get, List, [], ◌∷◌, Option, Some, None}
use Rattle.std.proofs.Common.{refl, sym, ap, ◌∙◌, subst, arith}
use Rattle.std.proofs.lemmas.Option.{none-some}
use Rattle.packet_frame.specs.Packets.{Framed, spellings}
use Rattle.client_session.specs.Answers.{Talk}
use Rattle.client_session.specs.Setups.{Setup as Service}
use Rattle.private_model.specs.Commands.{Account, Command}
use Rattle.private_model.specs.Names.{ClientNo, Hostgroup, MessageName}
use Rattle.private_model.specs.Story.{Left, is_client}
use Rattle.private_model.specs.View.{Setup, present}
use Rattle.log_story.specs.Clients.{taken_by, taken_up, waits_for_capture}
use Rattle.log_story.specs.Owed.{messages, name_of, talk_of}
use Rattle.log_story.specs.Plan.{Plan, Route, word_at}
use Rattle.log_story.specs.Tale as tales
use Rattle.log_story.specs.Tale.{Tale, tell, with_client}
use Rattle.stmt_map.specs.declared.client.ClientStatements.{ClientStatements}
use Rattle.client_desk.specs.Desks.{session_of}
use Rattle.client_desk.specs.declared.work.Work.{Work}
use Rattle.desk_laws.specs.Stands.{IsDesk, IsRequest, IsPlaced, held_of, message_at}
use Rattle.client_seat.specs.Requests.{asked_in, request_of}
use Rattle.client_seat.specs.Seats.{is_ended}
use Rattle.client_seat.specs.Stands.{IsHeardIn}
use Rattle.client_seat.specs.declared.next.Next.{Next}
use Rattle.client_seat.specs.declared.next.Next.TheVariants as next
use Rattle.client_seat.specs.declared.phase.Phase.{Phase}
use Rattle.client_seat.specs.declared.phase.Phase.TheVariants as phase
use Rattle.client_seat.specs.declared.seat.Seat.{Seat}
use Rattle.step_laws.proofs.Taking.{idle_takes, next_takes, once_seats, past_idle, seated_next}
use Rattle.step_laws.specs.Seats.{IsSeated}
use Rattle.step_laws.specs.Taken.{IsIdle, all_taken, next_made, next_of}
use Rattle.router_promises.specs.Takings.{Taking, taking_then, takings_of}
use Rattle.core_tables.specs.Arrivals.{looked, seated, turn}
use Rattle.core_tables.specs.Parting.{left_in}
use Rattle.core_tables.specs.Tables.{IsSame, Tabled, client_changed}
use Rattle.core_tables.specs.Taking.{answers, begins_anew, goes, quits}
use Rattle.core_tables.specs.declared.client.Client.{Client}
use Rattle.core_stands.specs.Clients.{IsOwing}
use Rattle.core_stands.specs.Grounds.{Ground, ending, looked_at, on, view_on}
use Rattle.core_stands.specs.Stands.{IsPrepared, Stands}
use Rattle.core_laws.specs.parting.Partings.{HasLives, IsEnding, IsLeaving}
use Rattle.core_laws.proofs.OfArrival.Changing.{changed-so}
use Rattle.core_laws.proofs.OfArrival.Finding.{client-same, false-true}
use Rattle.core_laws.proofs.OfArrival.Idling.{down-idles}
use Rattle.core_laws.specs.arrival.Looks.{IsLook, Looks, LooksBy, CameUp, IsParting, Rested}
use Rattle.core_laws.specs.taking.Takes.{IsNumberedAs, IsSent, IsUpOf, is_reset, own_of, route_of, took}
use Rattle.core_laws.proofs.OfTaking.Requested.{asked_so, bound_so}
use Rattle.core_laws.proofs.OfTaking.Standing.{took_answered, took_reset, took_sent}
use Rattle.core_laws.proofs.OfEntry.Looping.{taking_ends, taking_goes_on, taking_looks}
use Rattle.core_laws.specs.entry.Loops.{IsTaking}
use Rattle.core_laws.proofs.OfClients.Facts.{few_so, has_lives, held_is, its_row, unended, waits_so}
use Rattle.core_laws.proofs.OfClients.Waiting.{looked_waiting}
use Rattle.core_laws.specs.clients.Chosen.{IsChosen, IsGone, IsHaltIn, IsLookedFor, IsStanding, IsTurning, PlanHas, StandsBehind}
use Rattle.core_laws.specs.clients.Found.{AreFoundAt, IsAmong, IsEndFound, IsFound, IsFoundIn, IsLastAmong, desk_up, user_in}
use Rattle.core_laws.specs.clients.Turns.{AnswersBy, Answers, Choice, ComesUp, EndsThere, Ends, Goes, GoesBy, Halt, HaltsSo, IsLookedAt, IsTurn, Keyed, MakesAnswer, asked_by, count_by, is_quitting}
use Rattle.core_laws.specs.clients.Turns.{MayLeave, Quits, QuitsThere, Rests, RestsThere, Turns, Waits, WaitsThere}
use Rattle.private_model.specs.View.{due_of}
use Rattle.client_seat.specs.Numbers.{AreNoted, number_in}
use Rattle.log_story.specs.Executes.{Prepared}
use Rattle.router_promises.specs.Statements.{known_statement}
use Rattle.core_laws.proofs.OfPrepared.Knowing.{knows_statement}
use Rattle.session_state.specs.declared.place.Place.{Place}
use Rattle.std.specs.Option.{option_map}

-- The laws by which it goes.

pub record Laws : Type 0 where
  pub looks : (service : Service) (g : Ground) (t now : Tabled) (default : List ℕ) (client : tales.Client) (row : Client)
      → Stands service g t → IsLook g t default client row → IsSame now (looked service default client.number t)
      → Looks service g now default client row
  pub waits : (g : Ground) (client : tales.Client) → waits_for_capture (view_on g) g.plan client ≡ true
      → IsIdle g.setup g.plan g.tale client
  pub taken : (g : Ground) (t : Tabled) (client : tales.Client) (row : Client) → (is : IsUpOf g t client row)
      → next_made g.setup g.plan client g.tale
      ≡ Some (taken_by g.setup g.plan client (suc client.taken) is.up.message (route_of g client) g.tale)
  pub owns : (service : Service) (g : Ground) (t other : Tabled) (client : tales.Client) (row : Client) → Stands service g t
      → (is : IsUpOf g t client row) (flag : ℕ) (payloads : List (List ℕ)) (packets : List ℕ) (statements : ClientStatements)
      → route_of g client ≡ None → own_of g client ≡ Some payloads → packets ≡ spellings row.desk.seat.first payloads
      → is_reset is.up.message ≡ false → AreNoted true is.up.message.payload row.desk.seat.statements statements
      → IsSame other (client_changed client.number (answers flag packets statements) t)
      → Stands service (on g (took g client is.up.message)) other
  pub resets : (service : Service) (g : Ground) (t other : Tabled) (client : tales.Client) (row : Client) → Stands service g t
      → (is : IsUpOf g t client row) (flag : ℕ) (payloads : List (List ℕ)) (packets : List ℕ) (statements : ClientStatements)
      → route_of g client ≡ None → own_of g client ≡ Some payloads → packets ≡ spellings row.desk.seat.first payloads
      → is_reset is.up.message ≡ true → HasLives (view_on g) client.number
      → AreNoted true is.up.message.payload row.desk.seat.statements statements
      → IsSame other (begins_anew client.number flag packets statements t) → Stands service (on g (took g client is.up.message)) other
  pub quitting : (service : Service) (g : Ground) (t other : Tabled) (client : tales.Client) (row : Client) → Stands service g t
      → (is : IsUpOf g t client row) (flag : ℕ) (statements : ClientStatements) → route_of g client ≡ None → own_of g client ≡ None
      → is_reset is.up.message ≡ false → HasLives (view_on g) client.number → word_at g.plan g.tale.moment client.number ≡ None
      → IsSame other (quits client.number flag statements t)
      → Stands service (ending client.number (on g (tell (Left client.number) (took g client is.up.message)))) other
  pub dues : (service : Service) (g : Ground) (t other : Tabled) (client : tales.Client) (row : Client) → Stands service g t
      → (is : IsUpOf g t client row) (flag : ℕ) (route : Route) (command : Command) (work : Work) (statements : ClientStatements)
      → IsSent g client is.up.message route command work → IsNumberedAs route work row.desk.seat.statements
      → AreNoted false is.up.message.payload row.desk.seat.statements statements
      → IsSame other (client_changed client.number (goes flag work statements) t)
      → Stands service (on g (took g client is.up.message)) other
  pub leaves : (service : Service) (g : Ground) (t : Tabled) (client : tales.Client) (row : Client) (by : Seat → Seat) → Stands service g t
      → IsSeated g.tale client → t.clients client.number ≡ Some row
      → HasLives (view_on g) client.number
      → IsLeaving (on g (tell (Left client.number) g.tale)) client (by row.desk.seat)
      → IsEnding (on g (tell (Left client.number) g.tale)) client (by row.desk.seat)
      → Stands service (ending client.number (on g (tell (Left client.number) g.tale))) (left_in client.number by t)
  pub same : (service : Service) (g : Ground) (t other : Tabled) → Stands service g t → IsSame other t → Stands service g other

-- How many were taken up.

none_more : (n : ℕ) → n ≡ n + 0
none_more n = omega arith

one_more : (n : ℕ) → suc n ≡ n + 1
one_more n = omega arith

one_before : (n others last : ℕ) → suc n + (others + last) ≡ n + (suc others + last)
one_before n others last = omega arith

-- One turn, and what is asked of the next.
pub record IsOn (service : Service) (default : List ℕ) (first : tales.Client) (from : Tale) (g : Ground) (client : tales.Client) (now : Tabled) (tale : Tale)
    : Type 0 where
  pub turning : IsTurning service default first from (on (looked_at client.number g) tale) now (next_of client)
  pub moment : tale.moment ≡ g.tale.moment

module _ (laws : Laws) (service : Service) (default : List ℕ) (first client : tales.Client) (from : Tale) (g : Ground) (t : Tabled)
    (is : IsTurning service default first from g t client) where
  abbrev c : ClientNo
  c = client.number

  abbrev seen : Ground
  seen = looked_at c g

  is_look : (row : Client) (said : Next) → IsLookedAt service default c t row said → IsLook g t default client row
  is_look row said looks = record {
    known = record { seated = is.taking.seated; number = refl };
    there = looks.there;
    going = unended service g t client row is.taking.stands is.taking.seated looks.there is.going;
    captured = sym (waits_so service g t client row is.taking.stands is.taking.seated looks.there is.going) ∙ looks.captured;
    few = few_so service g t client row is.taking.stands is.taking.seated looks.there is.going looks.few;
    let_in = is.let_in;
  }

  said_so : (row : Client) (said : Next) (now : Tabled) → IsLookedAt service default c t row said → IsSame now (looked service default c t)
      → LooksBy said service g now client row (turn service default row.desk.seat)
  said_so row said now looks same =
      subst (λ (x : Next). LooksBy x service g now client row (turn service default row.desk.seat)) looks.says
      (laws.looks service g t now default client row is.taking.stands (is_look row said looks) same)

  unlooked : (other : ClientNo) → g.fresh other ≡ false → seen.fresh other ≡ false
  unlooked other e = by (not (is_client c other)) where
    by : (b : Bool) → (b && g.fresh other) ≡ false
    by true = e
    by false = refl

  its_looked : seen.fresh c ≡ false
  its_looked = ap (λ (b : Bool). not b && g.fresh c) (client-same c c refl)

  -- it waits, or rests

  pub waits_there : (now : Tabled) → WaitsThere c t now → IsLookedFor service first from client.taken g c now
  waits_there now there =
      let idle : IsIdle g.setup g.plan g.tale client =
      laws.waits g client (sym (waits_so service g t client there.row is.taking.stands is.taking.seated there.there is.going) ∙ there.waits) in
      let stands : Stands service seen now =
      laws.same service seen t now
      (looked_waiting service g t client there.row is.taking.stands is.taking.seated there.there is.going is.unrouted there.waits) there.same in
      record {
        standing = record {
          client = client;
          count = refl;
          tale = g.tale;
          fresh = seen.fresh;
          taking = taking_looks service first client from g t is.taking now stands;
          idle = idle;
          all = taking_ends service first client from g t is.taking idle;
          unlooked = unlooked;
        };
        looked = its_looked;
      }

  pub rests_there : (now : Tabled) → RestsThere service default c t now → IsLookedFor service first from client.taken g c now
  rests_there now there =
      let rested : Rested service g now client = said_so there.row next.Nothing now there.looks there.same in
      record {
        standing = record {
          client = client;
          count = refl;
          tale = g.tale;
          fresh = seen.fresh;
          taking = taking_looks service first client from g t is.taking now rested.stands;
          idle = rested.idle;
          all = taking_ends service first client from g t is.taking rested.idle;
          unlooked = unlooked;
        };
        looked = its_looked;
      }

  -- it is refused

  parts_there : (now : Tabled) → (there : EndsThere service default c t now) → IsParting g client there.row (turn service default there.row.desk.seat)
  parts_there now there =
      said_so there.row next.Ended (looked service default c t) there.looks (record { clients = λ n. refl; numbers = λ l. refl; links = λ l. refl })

  pub ends_there : word_at g.plan g.tale.moment c ≡ None → (now : Tabled) → EndsThere service default c t now → IsGone service first from client.taken g c now
  ends_there wordless now there =
      let seat : Seat = turn service default there.row.desk.seat in
      let parts : IsParting g client there.row seat = parts_there now there in
      let after : Ground = on g (tell (Left c) g.tale) in
      let leaving : IsLeaving after client seat = record {
        who = parts.who;
        heard = subst (λ (at : Phase). IsHeardIn at g.plan client seat) (sym parts.ended) tt;
        owed = subst (λ (at : Phase). IsOwing at (g.fresh c) after client seat) (sym parts.ended)
            (let front = parts.owed wordless in record { written = front.written; size = front.size; front = front.front });
        placed = subst (λ (at : Phase). IsPlaced at (view_on after) c seat.place) (sym parts.ended) tt;
      } in
      let ends : IsEnding after client seat = record {
        ended = ap is_ended parts.ended;
        told = λ worded. false-true (is_some (word_at g.plan g.tale.moment c)) (ap is_some wordless) worded;
      } in
      let stood : Stands service (ending c after) (left_in c (turn service default) t) =
      laws.leaves service g t client there.row (turn service default) is.taking.stands is.taking.seated there.looks.there
      (has_lives service g t client there.row is.taking.stands is.taking.seated there.looks.there there.lives) leaving ends in
      record {
        client = client;
        count = refl;
        tale = g.tale;
        fresh = g.fresh;
        stands = laws.same service (ending c after) (left_in c (turn service default) t) now stood there.same;
        seated = is.taking.seated;
        number = is.taking.number;
        all = taking_ends service first client from g t is.taking parts.rested;
        unlooked = λ other e. e;
      }

  -- A message of it comes up.

  module _ (between : Tabled) (up : ComesUp service default c t between) where
    abbrev there : Client
    there = seated (turn service default) up.row

    came : CameUp service g between client (turn service default up.row.desk.seat) up.ordinal
    came = said_so up.row (next.Message up.ordinal) between up.looks up.same

    is_up : IsUpOf seen between client there
    is_up = record {
      seated = is.taking.seated;
      there = changed-so (turn service default) c t between up.row up.looks.there up.same;
      up = record {
        account = came.up.account;
        serves = came.up.serves;
        served = came.up.served;
        message = came.up.message;
        rest = came.up.rest;
        whole = came.up.whole;
        found = came.up.found;
        next = came.up.next;
        counts = refl;
        up = came.up.up;
        answered = came.up.answered;
        first = came.up.first;
      };
      few = (is_look up.row (next.Message up.ordinal) up.looks).few;
    }

    is_found : up.message ≡ came.up.message
    is_found = let both : Some up.message ≡ Some came.up.message = sym up.found ∙ came.up.found in cc

    stood : IsDesk g.setup.reads (view_on g) c (desk_up service default up.row)
    unfolding came is_up
    stood = (its_row service seen between client there came.stands is.taking.seated is_up.there).desk

    stood_held : (h : Hostgroup) → (view_on g).held (present (view_on g) c h) ≡ held_of (session_of (desk_up service default up.row) h)
    unfolding came is_up
    stood_held = held_is service seen between client there came.stands is.taking.seated is_up.there

    port_found : client.port ≡ (desk_up service default up.row).seat.port
    unfolding came is_up
    port_found = sym (its_row service seen between client there came.stands is.taking.seated is_up.there).who.port

    -- what it has prepared by then
    has_prepared : IsPrepared seen client there
    unfolding came is_up
    has_prepared = came.stands.prepared client is.taking.seated there is_up.there (ap is_ended came.up.serves)

    answered_now : there.desk.seat.answered ≡ true
    unfolding came is_up
    answered_now = came.up.answered

    -- which is all that it knows
    has_known : (number : ℕ) (made : Prepared) → 0 < number → known_statement (view_on seen) g.plan client number (suc client.taken) ≡ Some made
        → is_some (number_in there.desk.seat.statements number) ≡ true
    unfolding came is_up
    has_known =
        knows_statement (view_on seen) g.plan client there.desk.seat.statements
        (λ k later. (its_row service seen between client there came.stands is.taking.seated is_up.there).coming.unanswered k (omega (arith, later)))
        (has_prepared.stands answered_now)

    abbrev taking : Taking
    taking = record { client = client; message = came.up.message; tale = g.tale }

    up_found : IsFoundIn c (desk_up service default up.row) up.message g.setup g.plan taking (slice_get (messages g.plan client) client.taken)
    unfolding has_prepared
    up_found = record {
      message_is = came.up.next.next ∙ ap (λ (m : Framed). Some m) (sym is_found);
      port = port_found;
      login = ap user_in came.up.serves ∙ ap (λ (account : Account). account.user) (sym (is.let_in.account came.up.account came.up.served.known));
      place = subst (λ (at : Phase). IsPlaced at (view_on g) c (desk_up service default up.row).seat.place) came.up.serves stood.place;
      held = stood_held;
      prepared = has_prepared.each;
      unused = has_prepared.kept answered_now;
      known = has_known;
      unserved = has_prepared.unserved;
    }

    looking : IsTaking service first from seen between client
    looking = taking_looks service first client from g t is.taking between came.stands

    next_is : next_made g.setup g.plan client g.tale
        ≡ Some (taken_by g.setup g.plan client (suc client.taken) came.up.message (route_of g client) g.tale)
    unfolding came is_up
    next_is = laws.taken seen between client there is_up

    abbrev taken_then : Tale
    taken_then = took seen client came.up.message

    -- that is its taking

    takes : (most : ℕ) → takings_of (suc most) g.setup g.plan client g.tale ≡ taking ∷ takings_of most g.setup g.plan (next_of client) taken_then
    takes most = λ i.
        taking_then client g.tale (came.up.next.next i) (next_is i)
        (λ other. takings_of most g.setup g.plan (next_of client) (with_client (next_of client) other))

    takes_first : (most : ℕ) → IsAmong (takings_of (suc most) g.setup g.plan client g.tale) (name_of client (suc client.taken)) taking
    takes_first most = record { place = 0; there = ap (λ (all : List Taking). slice_get all 0) (takes most); named = refl }

    takes_none : {A : Type 0} → length (messages g.plan client) ≤ client.taken → A
    takes_none past =
        absurd (none-some (taken_by g.setup g.plan client (suc client.taken) came.up.message (route_of g client) g.tale)
        (sym (past_idle g.setup g.plan client g.tale past) ∙ next_is))

    turned_so : (now : Tabled) → Stands service (on seen taken_then) now → taken_then.moment ≡ g.tale.moment → IsOn service default first from g client now taken_then
    turned_so now stands moment = record {
      turning = record {
        taking = taking_goes_on service first client from seen between looking now
            (taken_by g.setup g.plan client (suc client.taken) came.up.message (route_of g client) g.tale) next_is stands;
        classes = is.classes;
        let_in = record { account = is.let_in.account; place = is.let_in.place };
        going = is.going;
        unrouted = is.unrouted;
      };
      moment = moment;
    }

    lives_here : MayLeave up.row → HasLives (view_on seen) c
    lives_here may = has_lives service g t client up.row is.taking.stands is.taking.seated up.looks.there may

    answered_by : (b : Bool) → is_reset came.up.message ≡ b → (payloads : List (List ℕ)) (flag : ℕ) (packets : List ℕ) (statements : ClientStatements)
        → packets ≡ spellings (turn service default up.row.desk.seat).first payloads → (now : Tabled)
        → AreNoted true came.up.message.payload there.desk.seat.statements statements → MakesAnswer b c flag packets statements up.row between now
        → route_of g client ≡ None → own_of g client ≡ Some payloads → IsOn service default first from g client now taken_then
    unfolding came is_up
    answered_by false e payloads flag packets statements spelt now noted makes unrouted own =
        let tale_is : taken_then ≡ with_client (next_of client) g.tale = took_answered seen client came.up.message unrouted e in
        turned_so now (laws.owns service seen between now client there came.stands is_up flag payloads packets statements unrouted own spelt e noted makes)
        (ap (λ (x : Tale). x.moment) tale_is)
    answered_by true e payloads flag packets statements spelt now noted makes unrouted own =
        let tale_is : taken_then ≡ with_client (next_of client) (tell (Left c) g.tale) = took_reset seen client came.up.message unrouted e in
        turned_so now
        (laws.resets service seen between now client there came.stands is_up flag payloads packets statements unrouted own spelt e (lives_here makes.0) noted makes.1)
        (ap (λ (x : Tale). x.moment) tale_is)

    goes_by : (route : Route) (command : Command) (flag : ℕ) (work : Work) (statements : ClientStatements) (now : Tabled)
        → IsSent seen client came.up.message route command work → IsNumberedAs route work there.desk.seat.statements
        → AreNoted false came.up.message.payload there.desk.seat.statements statements
        → IsSame now (client_changed c (goes flag work statements) between) → IsOn service default first from g client now taken_then
    unfolding came is_up
    goes_by route command flag work statements now sends numbered noted same =
        let tale_is = took_sent seen client came.up.message route command work sends in
        turned_so now (laws.dues service seen between now client there came.stands is_up flag route command work statements sends numbered noted same)
        (ap (λ (x : Tale). x.moment) tale_is)

    -- it quits
    quits_by : (flag : ℕ) (statements : ClientStatements) (now : Tabled) → is_reset came.up.message ≡ false → MayLeave up.row
        → IsSame now (quits c flag statements between) → route_of g client ≡ None → own_of g client ≡ None
        → word_at g.plan g.tale.moment c ≡ None → Stands service (ending c (on seen (tell (Left c) taken_then))) now
    unfolding came is_up
    quits_by flag statements now e may same unrouted own wordless =
        laws.quitting service seen between now client there came.stands is_up flag statements unrouted own e (lives_here may) wordless same

    -- nothing more of it is up, since that isn't answered

    answered_not : (own reply others : Bool) → own ≡ false → reply ≡ false → ((own || reply) && others) ≡ false
    answered_not true reply others owned none = false-true true owned refl
    answered_not false true others owned none = false-true true none refl
    answered_not false false others owned none = refl

    quit_idle : route_of g client ≡ None → own_of g client ≡ None → is_reset came.up.message ≡ false → IsIdle g.setup g.plan taken_then (next_of client)
    quit_idle unrouted own e =
        subst (λ (tale : Tale). IsIdle g.setup g.plan tale (next_of client)) (sym (took_answered seen client came.up.message unrouted e))
        (down-idles g.setup g.plan (next_of client) (with_client (next_of client) g.tale)
        (answered_not (is_some (own_of g client)) (is_some ((view_on g).replies (name_of client (suc client.taken)))) _ (ap is_some own)
        (ap is_some ((its_row service g t client up.row is.taking.stands is.taking.seated up.looks.there).coming.unanswered (suc client.taken) (omega arith)))))

    quit_seated : IsSeated taken_then (next_of client)
    quit_seated =
        seated_next g.setup g.plan client (next_of client) g.tale
        (taken_by g.setup g.plan client (suc client.taken) came.up.message (route_of g client) g.tale) refl
        (once_seats g.setup g.plan client (slice_get (messages g.plan client) client.taken) g.tale
        (taken_by g.setup g.plan client (suc client.taken) came.up.message (route_of g client) g.tale) next_is) is.taking.seated

    -- and that was all
    quit_all : (most : ℕ) → length (messages g.plan client) ≤ most + client.taken
        → taken_up most g.setup g.plan client g.tale ≡ all_taken g.setup g.plan first from
        → IsIdle g.setup g.plan taken_then (next_of client) → all_taken g.setup g.plan first from ≡ taken_then
    quit_all zero enough to_come idle =
        absurd (none-some (taken_by g.setup g.plan client (suc client.taken) came.up.message (route_of g client) g.tale)
        (sym (past_idle g.setup g.plan client g.tale (omega (arith, enough))) ∙ next_is))
    quit_all (suc most) enough to_come idle =
        sym to_come
        ∙ next_takes g.setup g.plan most client g.tale
        (taken_by g.setup g.plan client (suc client.taken) came.up.message (route_of g client) g.tale) next_is
        ∙ idle_takes g.setup g.plan most (next_of client) taken_then idle

    quits_there : (flag : ℕ) (statements : ClientStatements) (now : Tabled) → is_reset came.up.message ≡ false → MayLeave up.row
        → IsSame now (quits c flag statements between) → IsHaltIn Quits g.plan g.tale.moment (name_of client (suc client.taken))
        → IsGone service first from (suc client.taken) g c now
    quits_there flag statements now e may same last = record {
      client = next_of client;
      count = refl;
      tale = taken_then;
      fresh = seen.fresh;
      stands = quits_by flag statements now e may same last.unrouted last.unanswered last.wordless;
      seated = quit_seated;
      number = is.taking.number;
      all = quit_all is.taking.most is.taking.enough is.taking.to_come (quit_idle last.unrouted last.unanswered e);
      unlooked = unlooked;
    }

  -- Turns as the code makes them.

  answers_turn : (payloads : List (List ℕ)) (now : Tabled) → AnswersBy service default payloads c t now
      → IsChosen (Answers payloads) g.setup.keys g.plan g.tale.moment (name_of client (suc client.taken))
      → (tale : Tale) × IsOn service default first from g client now tale
  answers_turn payloads now turn chosen =
      let message : Framed = (came turn.between turn.up).up.message in (
        taken_then turn.between turn.up,
        answered_by turn.between turn.up (is_reset message) refl payloads turn.flag turn.packets turn.statements turn.spelt now
            (subst (λ (m : Framed). AreNoted true m.payload (there turn.between turn.up).desk.seat.statements turn.statements)
            (is_found turn.between turn.up) turn.noted)
            (subst (λ (m : Framed). MakesAnswer (is_reset m) c turn.flag turn.packets turn.statements turn.up.row turn.between now)
            (is_found turn.between turn.up) turn.makes)
            chosen.unrouted chosen.answered,
      )

  goes_turn : (route : Route) (keyed : List Keyed) (now : Tabled) → GoesBy service default route keyed c t now
      → IsChosen (Goes route keyed) g.setup.keys g.plan g.tale.moment (name_of client (suc client.taken))
      → (tale : Tale) × IsOn service default first from g client now tale
  goes_turn route keyed now turn chosen =
      let message : Framed = (came turn.between turn.up).up.message in
      let seat : Seat = (there turn.between turn.up).desk.seat in
      let place : (view_on seen).places c ≡ seat.place = (up_found turn.between turn.up).place in
      let asks : asked_by g.setup route seat message.payload ≡ Some (record { command = turn.command; key = turn.work.key }) =
      subst (λ (m : Framed). asked_by g.setup route seat m.payload ≡ Some (record { command = turn.command; key = turn.work.key }))
      (is_found turn.between turn.up) (turn.asked g.setup chosen.1) in
      let request = turn.request g.setup.reads is.classes in
      let sends : IsSent seen client message route turn.command turn.work = record {
        routed = chosen.0.routed;
        unanswered = chosen.0.unanswered;
        single = chosen.0.single;
        asked = asked_so seen client (there turn.between turn.up) (has_prepared turn.between turn.up) route message.payload
            (record { command = turn.command; key = turn.work.key })
            (subst (λ (at : Place). option_map (request_of g.setup at.schema route.key (λ (key : ℕ). key)) (asked_in seat.statements message.payload route.text)
            ≡ Some (record { command = turn.command; key = turn.work.key })) (sym place) asks);
        request = subst (λ (ordinal : ℕ). IsRequest g.setup.reads ordinal turn.work.key turn.command route.multiplex turn.work)
            (came turn.between turn.up).up.counts request;
        hostgroup = turn.hostgroup;
        keyed = turn.keyed_for g.setup chosen.1
            (due_of (view_on seen) (present (view_on seen) client.number turn.work.hostgroup) (suc client.taken) turn.work.key turn.command route.multiplex)
            refl place;
        whole = turn.whole (bound_so seen client (there turn.between turn.up) (has_prepared turn.between turn.up));
      } in (
        taken_then turn.between turn.up,
        goes_by turn.between turn.up route turn.command turn.flag turn.work turn.statements now sends turn.numbered
            (subst (λ (m : Framed). AreNoted false m.payload (there turn.between turn.up).desk.seat.statements turn.statements)
            (is_found turn.between turn.up) turn.noted) turn.same,
      )

  pub one_turn : (choice : Choice) (now : Tabled) → IsTurn choice service default c t now
      → IsChosen choice g.setup.keys g.plan g.tale.moment (name_of client (suc client.taken))
      → (tale : Tale) × IsOn service default first from g client now tale
  one_turn (Goes route keyed) now turn chosen = goes_turn route keyed now turn chosen
  one_turn (Answers payloads) now turn chosen = answers_turn payloads now turn chosen

  pub turn_found : (choice : Choice) (now : Tabled) → (turn : IsTurn choice service default c t now) → (most : ℕ)
      → IsFound choice service default c t now turn g.setup g.plan (takings_of (suc most) g.setup g.plan client g.tale)
      (slice_get (messages g.plan client) client.taken) client.taken
  turn_found (Goes route keyed) now turn most =
      record { taking = taking turn.between turn.up; among = takes_first turn.between turn.up most; at = up_found turn.between turn.up }
  turn_found (Answers payloads) now turn most =
      record { taking = taking turn.between turn.up; among = takes_first turn.between turn.up most; at = up_found turn.between turn.up }

  pub turn_takes : (choice : Choice) (now : Tabled) → (turn : IsTurn choice service default c t now)
      → (chosen : IsChosen choice g.setup.keys g.plan g.tale.moment (name_of client (suc client.taken))) → (most : ℕ)
      → (first_one : Taking) × (takings_of (suc most) g.setup g.plan client g.tale
      ≡ first_one ∷ takings_of most g.setup g.plan (next_of client) (one_turn choice now turn chosen).0)
  unfolding one_turn goes_turn answers_turn
  turn_takes (Goes route keyed) now turn chosen most = (taking turn.between turn.up, takes turn.between turn.up most)
  turn_takes (Answers payloads) now turn chosen most = (taking turn.between turn.up, takes turn.between turn.up most)

  pub turn_none : {A : Type 0} (choice : Choice) (now : Tabled) → IsTurn choice service default c t now → length (messages g.plan client) ≤ client.taken → A
  turn_none (Goes route keyed) now turn past = takes_none turn.between turn.up past
  turn_none (Answers payloads) now turn past = takes_none turn.between turn.up past

  pub last_found : (halt : Halt) (now : Tabled) → (there : HaltsSo halt service default c t now) → (most : ℕ)
      → length (messages g.plan client) ≤ most + client.taken
      → IsLastAmong halt (takings_of most g.setup g.plan client g.tale) (name_of client (suc client.taken))
      × IsEndFound halt service default c t now there (talk_of g.plan client) client.taken
  last_found Waits now there most enough = (tt, tt)
  last_found Rests now there most enough = (tt, tt)
  last_found Ends now there most enough = (tt, (parts_there now there).refused)
  last_found Quits now there zero enough = takes_none there.between there.up (omega (arith, enough))
  last_found Quits now there (suc most) enough =
      ((taking there.between there.up, takes_first there.between there.up most), (up_found there.between there.up).message_is)

  quits_turn : (now : Tabled) → QuitsThere service default c t now
      → IsHaltIn Quits g.plan g.tale.moment (name_of client (suc client.taken)) → IsGone service first from (suc client.taken) g c now
  quits_turn now there last =
      quits_there there.between there.up there.flag there.statements now
      (subst (λ (m : Framed). is_reset m ≡ false) (is_found there.between there.up) there.quits_only) there.lives there.same last

  last_turn : (halt : Halt) (now : Tabled) → HaltsSo halt service default c t now
      → IsHaltIn halt g.plan g.tale.moment (name_of client (suc client.taken))
      → StandsBehind halt service first from (client.taken + count_by [] halt) g c now
  last_turn Waits now there has =
      subst (λ (n : ℕ). IsLookedFor service first from n g c now) (none_more client.taken) (waits_there now there)
  last_turn Rests now there has =
      subst (λ (n : ℕ). IsLookedFor service first from n g c now) (none_more client.taken) (rests_there now there)
  last_turn Quits now there has =
      subst (λ (n : ℕ). IsGone service first from n g c now) (one_more client.taken) (quits_turn now there has)
  last_turn Ends now there has =
      subst (λ (n : ℕ). IsGone service first from n g c now) (none_more client.taken) (ends_there has now there)

  -- What stands behind other turns stands behind these.

  module _ (tale : Tale) (taken : ℕ) (now : Tabled) where
    abbrev after : Ground
    after = on seen tale

    still_standing : IsStanding service first from taken after now → IsStanding service first from taken g now
    still_standing s = record {
      client = s.client;
      count = s.count;
      tale = s.tale;
      fresh = s.fresh;
      taking = s.taking;
      idle = s.idle;
      all = s.all;
      unlooked = λ other e. s.unlooked other (unlooked other e);
    }

    still_gone : IsGone service first from taken after c now → IsGone service first from taken g c now
    still_gone s = record {
      client = s.client;
      count = s.count;
      tale = s.tale;
      fresh = s.fresh;
      stands = s.stands;
      seated = s.seated;
      number = s.number;
      all = s.all;
      unlooked = λ other e. s.unlooked other (unlooked other e);
    }

    still : (halt : Halt) → StandsBehind halt service first from taken after c now → StandsBehind halt service first from taken g c now
    unfolding still_standing
    still Waits s = record { standing = still_standing s.standing; looked = s.looked }
    still Rests s = record { standing = still_standing s.standing; looked = s.looked }
    still Quits s = still_gone s
    still Ends s = still_gone s

pub turns_so : (laws : Laws) (service : Service) (default : List ℕ) (first client : tales.Client) (from : Tale) (g : Ground) (t now : Tabled)
    (choices : List Choice) (halt : Halt) → IsTurning service default first from g t client
    → PlanHas choices halt g.setup.keys g.plan g.tale.moment (name_of client (suc client.taken))
    → Turns choices halt service default client.number t now
    → StandsBehind halt service first from (client.taken + count_by choices halt) g client.number now
turns_so laws service default first client from g t now [] halt is has turns =
    last_turn laws service default first client from g t is halt now turns has
turns_so laws service default first client from g t now (choice ∷ others) halt is has turns =
    let made = one_turn laws service default first client from g t is choice turns.0 turns.1 has.0 in
    subst (λ (n : ℕ). StandsBehind halt service first from n g client.number now)
    (one_before client.taken (length others) (if is_quitting halt then 1 else 0))
    (still laws service default first client from g t is made.0 (suc client.taken + count_by others halt) now halt
    (turns_so laws service default first (next_of client) from (on (looked_at client.number g) made.0) turns.0 now others halt made.1.turning
    (subst (λ (moment : ℕ). PlanHas others halt g.setup.keys g.plan moment (name_of (next_of client) (suc (suc client.taken)))) (sym made.1.moment) has.1)
    turns.2))

-- The messages that it took up are those that came up.

among_later : (first : Taking) (takings : List Taking) (name : MessageName) (taking : Taking) → IsAmong takings name taking → IsAmong (first ∷ takings) name taking
among_later first takings name up among = record { place = suc among.place; there = among.there; named = among.named }

last_later : (halt : Halt) (first : Taking) (takings : List Taking) (name : MessageName) → IsLastAmong halt takings name
    → IsLastAmong halt (first ∷ takings) name
last_later Waits first takings name last = tt
last_later Rests first takings name last = tt
last_later Ends first takings name last = tt
last_later Quits first takings name last = (last.0, among_later first takings name last.0 last.1)

found_later : (one : Taking) (takings : List Taking) (choices : List Choice) (halt : Halt) (service : Service) (default : List ℕ) (c : ClientNo) (old new : Tabled)
    (turns : Turns choices halt service default c old new) (setup : Setup) (plan : Plan) (talk : Talk) (k : ℕ)
    → AreFoundAt choices halt service default c old new turns setup plan takings talk k
    → AreFoundAt choices halt service default c old new turns setup plan (one ∷ takings) talk k
found_later one takings [] halt service default c old new turns setup plan talk k found =
    (last_later halt one takings (message_at c (suc k)) found.0, found.1)
found_later one takings (choice ∷ others) halt service default c old new turns setup plan talk k found = (
  record { taking = found.0.taking; among = among_later one takings (message_at c (suc k)) found.0.taking found.0.among; at = found.0.at },
  found_later one takings others halt service default c turns.0 new turns.2 setup plan talk (suc k) found.1,
)

turns_found_in : (laws : Laws) (service : Service) (default : List ℕ) (first client : tales.Client) (from : Tale) (g : Ground) (t now : Tabled)
    (choices : List Choice) (halt : Halt) → IsTurning service default first from g t client
    → PlanHas choices halt g.setup.keys g.plan g.tale.moment (name_of client (suc client.taken))
    → (turns : Turns choices halt service default client.number t now) → (most : ℕ) → length (messages g.plan client) ≤ most + client.taken
    → AreFoundAt choices halt service default client.number t now turns g.setup g.plan (takings_of most g.setup g.plan client g.tale) (talk_of g.plan client)
    client.taken
turns_found_in laws service default first client from g t now [] halt is has turns most enough =
    last_found laws service default first client from g t is halt now turns most enough
turns_found_in laws service default first client from g t now (choice ∷ others) halt is has turns zero enough =
    turn_none laws service default first client from g t is choice turns.0 turns.1 (omega (arith, enough))
turns_found_in laws service default first client from g t now (choice ∷ others) halt is has turns (suc most) enough =
    let made = one_turn laws service default first client from g t is choice turns.0 turns.1 has.0 in
    let takes = turn_takes laws service default first client from g t is choice turns.0 turns.1 has.0 most in (
      turn_found laws service default first client from g t is choice turns.0 turns.1 most,
      subst (λ (takings : List Taking). AreFoundAt others halt service default client.number turns.0 now turns.2 g.setup g.plan takings (talk_of g.plan client) (suc client.taken))
          (sym takes.1)
          (found_later takes.0 (takings_of most g.setup g.plan (next_of client) made.0) others halt service default client.number turns.0 now turns.2 g.setup
          g.plan (talk_of g.plan client) (suc client.taken)
          (turns_found_in laws service default first (next_of client) from (on (looked_at client.number g) made.0) turns.0 now others halt made.1.turning
          (subst (λ (moment : ℕ). PlanHas others halt g.setup.keys g.plan moment (name_of (next_of client) (suc (suc client.taken)))) (sym made.1.moment) has.1)
          turns.2 most (omega (arith, enough)))),
    )

pub turns_found : (laws : Laws) (service : Service) (default : List ℕ) (first client : tales.Client) (from : Tale) (g : Ground) (t now : Tabled)
    (choices : List Choice) (halt : Halt) (c : ClientNo) → client.number ≡ c → IsTurning service default first from g t client
    → PlanHas choices halt g.setup.keys g.plan g.tale.moment (name_of client (suc client.taken)) → (turns : Turns choices halt service default c t now)
    → (most : ℕ) → length (messages g.plan client) ≤ most + client.taken
    → AreFoundAt choices halt service default c t now turns g.setup g.plan (takings_of most g.setup g.plan client g.tale) (talk_of g.plan client) client.taken
turns_found laws service default first client from g t now choices halt c same is has turns most enough =
    subst (λ (n : ClientNo). (by : Turns choices halt service default n t now)
    → AreFoundAt choices halt service default n t now by g.setup g.plan (takings_of most g.setup g.plan client g.tale) (talk_of g.plan client) client.taken) same
    (λ by. turns_found_in laws service default first client from g t now choices halt is has by most enough) turns
