-- Tables stand alike by another plan, by which the same messages are answered by now.
use Rattle.std.specs.Prelude.{◌≡◌, ◌≤◌, ◌+◌, ◌-◌, ℕ, zero, suc, Bool, true, false, is_some, ◌||◌, length, take, List, [], ◌∷◌, ◌++◌, Option, Some, None}
use Rattle.std.specs.Option.{option_or}
use Rattle.std.proofs.Common.{refl, sym, ap, ◌∙◌, arith}
use Rattle.std.proofs.lemmas.List.{length-take}
use Rattle.packet_frame.specs.Packets.{Framed, next_id}
use Rattle.client_session.specs.Answers.{front}
use Rattle.client_session.specs.Setups.{Setup as Service}
use Rattle.private_model.specs.Names.{ClientNo, LinkId, MessageName}
use Rattle.private_model.specs.View.{View}
use Rattle.log_story.specs.Clients.{is_answered}
use Rattle.log_story.specs.Executes.{prepared_by, prepared_in}
use Rattle.log_story.specs.Owed.{answered_with, due_bytes, due_for, error_behind, messages, name_of, number_of, talk_of, with_word}
use Rattle.log_story.specs.Plan.{OwnAnswer, own_at, word_at}
use Rattle.log_story.specs.Tale as tales
use Rattle.log_story.specs.Tale.{is_to_server, link_in}
use Rattle.link_state.specs.declared.asking.Asking.{Asking}
use Rattle.link_state.specs.declared.asking.Purpose.{Purpose}
use Rattle.link_state.specs.declared.asking.Purpose.TheVariants as purposes
use Rattle.link_state.specs.declared.state.Stage.{Stage}
use Rattle.link_state.specs.declared.state.Stage.TheVariants.{Quiet, Asked, Answered}
use Rattle.lent_link.specs.declared.link.Begins.{Begins}
use Rattle.lent_link.specs.declared.link.Begins.TheVariants as begins
use Rattle.served_link.specs.declared.row.Row.{Row}
use Rattle.client_seat.specs.Seats.{is_ended}
use Rattle.client_seat.specs.Stands.{IsHeardIn, due_so_far}
use Rattle.client_seat.specs.declared.phase.Phase.{Phase}
use Rattle.client_seat.specs.declared.phase.Phase.TheVariants as phase
use Rattle.client_seat.specs.declared.seat.Seat.{Seat}
use Rattle.client_desk.specs.declared.work.Work.{Work}
use Rattle.step_laws.proofs.Seating.{counted_seats}
use Rattle.step_laws.specs.Seats.{IsSeated}
use Rattle.core_tables.specs.Tables.{Tabled}
use Rattle.core_tables.specs.declared.client.Client.{Client}
use Rattle.core_tables.specs.declared.server.Server.{Server}
use Rattle.core_stands.specs.Clients.{IsClientOr, IsPhase, IsWorkingOr}
use Rattle.core_stands.specs.Grounds.{Ground, known_on, view_on}
use Rattle.core_stands.specs.Servers.{IsNextFor, IsNextOf, IsPartedAt, IsPartedFor, IsReplyingAt, IsReplyingFor, IsServer, IsServerBy, IsServerOr, IsTakenUp}
use Rattle.core_stands.specs.Stands.{AreClients, AreDuly, IsAt, IsDuly, IsKnown, IsPrepared, Stands}
use Rattle.run_laws.proofs.Becoming.{became_so}
use Rattle.private_model.specs.Names.{SessionName}
use Rattle.core_laws.proofs.OfParting.Moving.{all_with}
use Rattle.core_laws.proofs.OfParting.Owing.{owing_alike}
use Rattle.core_laws.proofs.OfParting.Standing.{stand_so, standing_at}

module _ (g : Ground) (own : MessageName → Option OwnAnswer) where
  abbrev pub supposed : Ground
  supposed = record g { plan = record g.plan { own = own } }

  -- of those that were taken up
  abbrev pub OwnsAlike : tales.Client → Type 0
  OwnsAlike x =
      (ordinal : ℕ) → ordinal ≤ x.taken
      → own_at supposed.plan g.tale.moment (name_of x ordinal) ≡ own_at g.plan g.tale.moment (name_of x ordinal)

  -- A client.

  module _ (x : tales.Client) (alike : OwnsAlike x) where
    due_alike : (last : List ℕ) (ordinal : ℕ) (sent : List Framed) → ordinal + length sent ≤ suc x.taken
        → due_for (view_on g).replies supposed.plan g.tale.moment x last ordinal sent ≡ due_for (view_on g).replies g.plan g.tale.moment x last ordinal sent
    due_alike last ordinal [] below = refl
    due_alike last ordinal (message ∷ others) below =
        let here : ordinal ≤ x.taken = omega arith in
        let rest : suc ordinal + length others ≤ suc x.taken = omega arith in
        λ i. answered_with (alike ordinal here i) ((view_on g).replies (name_of x ordinal)) (number_of g.plan (name_of x ordinal)) (next_id message.last)
        (due_alike last (suc ordinal) others rest i)

    due_taken : (last : List ℕ) → due_for (view_on g).replies supposed.plan g.tale.moment x last 1 (take x.taken (messages g.plan x))
        ≡ due_for (view_on g).replies g.plan g.tale.moment x last 1 (take x.taken (messages g.plan x))
    due_taken last = due_alike last 1 (take x.taken (messages g.plan x)) (omega (arith, length-take x.taken (messages g.plan x)))

    so_far_alike : due_so_far (known_on g) x ≡ due_so_far (known_on supposed) x
    so_far_alike = sym (ap (λ (due : List ℕ). front (talk_of g.plan x) ++ due) (due_taken []))

    bytes_alike : due_bytes (view_on g).replies g.plan g.tale.moment x ≡ due_bytes (view_on g).replies supposed.plan g.tale.moment x
    bytes_alike =
        sym (λ i. with_word (talk_of g.plan x) (front (talk_of g.plan x) ++ due_taken (error_behind g.plan x) i) (word_at g.plan g.tale.moment x.number))

    answered_alike : (ordinal : ℕ) → ordinal ≤ x.taken
        → is_answered supposed.plan g.tale (view_on g) x ordinal ≡ is_answered g.plan g.tale (view_on g) x ordinal
    answered_alike zero below = refl
    answered_alike (suc n) below = λ i. is_some (alike (suc n) below i) || is_some ((view_on g).replies (name_of x (suc n)))

    working_alike : (row : Client) (work : Option Work) → IsWorkingOr g x row work → IsWorkingOr supposed x row work
    working_alike row None is = is
    working_alike row (Some work) is = record {
      last = is.last;
      went = is.went;
      number = is.number;
      only = is.only;
      prepares = is.prepares;
      keyed = is.keyed;
      first = is.first;
      unsent = is.unsent;
      there = is.there;
    }

    phase_alike : (row : Client) (ended : Bool) → IsPhase ended g x row → IsPhase ended supposed x row
    phase_alike row true is = record {
      over = is.over;
      idle = is.idle;
      told = λ word ordinal below. answered_alike ordinal below ∙ is.told word ordinal below;
      homeless = is.homeless;
    }
    phase_alike row false is = record {
      going = is.going;
      earlier = λ ordinal below. answered_alike ordinal (omega (arith, below)) ∙ is.earlier ordinal below;
      answered = is.answered ∙ sym (answered_alike x.taken (omega arith));
      went = is.went;
      busy = is.busy;
      working = working_alike row row.desk.work is.working;
      unmoved = is.unmoved;
      account = is.account;
      collation = is.collation;
    }

    heard_alike : (at : Phase) (seat : Seat) → IsHeardIn at g.plan x seat → IsHeardIn at supposed.plan x seat
    heard_alike phase.LoggingIn seat is = record {
      limit = is.limit;
      untaken = is.untaken;
      arrived = is.arrived;
      written = is.written;
      size = is.size;
      login = is.login;
    }
    heard_alike (phase.Serving account) seat is = record {
      limit = is.limit;
      known = is.known;
      logged_in = is.logged_in;
      faultless = is.faultless;
      arrived = is.arrived;
      gone = is.gone;
      size = is.size;
      rest = is.rest;
    }
    heard_alike phase.Ended seat is = tt

    pub row_alike : (found : Option Client) → IsClientOr g x found → IsClientOr supposed x found
    row_alike None is = record { over = is.over; homeless = is.homeless }
    row_alike (Some row) is = record {
      who = is.who;
      heard = heard_alike row.desk.seat.phase row.desk.seat is.heard;
      owed = owing_alike g supposed x row.desk.seat.phase (g.fresh x.number) row.desk.seat so_far_alike (λ ended. bytes_alike) is.owed;
      desk = is.desk;
      coming = is.coming;
      phase = phase_alike row (is_ended row.desk.seat.phase) is.phase;
    }

  -- Rows of links read none of the router's own answers.

  module _ (t : Tabled) (l : LinkId) where
    taken_alike : (n : SessionName) (ordinal : ℕ) → IsTakenUp g n ordinal → IsTakenUp supposed n ordinal
    taken_alike n ordinal is = record { client = is.client; seated = is.seated; number = is.number; by_now = is.by_now }

    module _ (row : Row) where
      next_for : (asking : Asking) (purpose : Purpose) → IsNextFor purpose g t row (link_in g.setup g.tale l) asking
          → IsNextFor purpose supposed t row (link_in g.setup g.tale l) asking
      next_for asking (purposes.Statement n ordinal key) is = record {
        said = is.said;
        first = is.first;
        asked = is.asked;
        number = is.number;
        taken_up = taken_alike n ordinal is.taken_up;
      }
      next_for asking (purposes.Prep n ordinal key) is = record { said = is.said; told = is.told; taken_up = taken_alike n ordinal is.taken_up }
      next_for asking (purposes.Sync n) is = record { command = is.command; said = is.said }
      next_for asking purposes.Own is = record { command = is.command; said = is.said }
      next_for asking (purposes.End n) is = is
      next_for asking (purposes.Capture n) is = is

      next_then : (next : Option Begins) → IsNextOf next g t row (link_in g.setup g.tale l) → IsNextOf next supposed t row (link_in g.setup g.tale l)
      next_then None is = is
      next_then (Some (begins.Asks asking)) is = (is.0, next_for asking asking.purpose is.1)
      next_then (Some (begins.Closes number)) is = is
      next_then (Some (begins.Resets number)) is = is
      next_then (Some begins.Quits) is = is

      reply_for : (asking : Asking) (purpose : Purpose) → IsReplyingFor purpose g t l row asking → IsReplyingFor purpose supposed t l row asking
      reply_for asking (purposes.Statement n ordinal key) is = record {
        client = is.client;
        work = is.work;
        there = is.there;
        in_work = is.in_work;
        last = is.last;
        sent = is.sent;
        hostgroup = is.hostgroup;
        number = is.number;
        first = is.first;
        coming = is.coming;
      }
      reply_for asking (purposes.Prep n ordinal key) is = tt
      reply_for asking (purposes.Sync n) is = tt
      reply_for asking purposes.Own is = tt
      reply_for asking (purposes.End n) is = tt
      reply_for asking (purposes.Capture n) is = tt

      reply_then : (stage : Stage) → IsReplyingAt stage g t l row → IsReplyingAt stage supposed t l row
      reply_then Quiet is = tt
      reply_then (Asked asking) is = reply_for asking asking.purpose is
      reply_then (Answered asking) is = reply_for asking asking.purpose is

      parted_for : (purpose : Purpose) → IsPartedFor purpose g → IsPartedFor purpose supposed
      parted_for (purposes.Statement n ordinal key) is = (is.0, taken_alike n ordinal is.1)
      parted_for (purposes.Prep n ordinal key) is = tt
      parted_for (purposes.Sync n) is = tt
      parted_for purposes.Own is = tt
      parted_for (purposes.End n) is = tt
      parted_for (purposes.Capture n) is = tt

      parted_then : (stage : Stage) → IsPartedAt stage g → IsPartedAt stage supposed
      parted_then Quiet is = tt
      parted_then (Asked asking) is = parted_for asking.purpose is
      parted_then (Answered asking) is = parted_for asking.purpose is

    module _ (service : Service) (stands : Stands service g t) where
      server_then : (row : Row) → IsServer g t l row → IsServer supposed t l row
      server_then row is = record {
        row = is.row;
        user = is.user;
        found_rows = is.found_rows;
        lent = is.lent;
        parted = λ sound kept some. parted_then row row.link.state.stage (is.parted sound kept some);
        standing = standing_at supposed l (stand_so g.setup g.tale.story stands.lawful);
        next = next_then row row.link.next is.next;
        replying = λ sound kept mine. reply_then row row.link.state.stage (is.replying sound kept mine);
      }

      by : (b : Bool) (found : Option Server) → IsServerBy b g t l found → IsServerBy b supposed t l found
      by true (Some server) is = server_then server.row is
      by true None is = is
      by false found is = is

      server_alike : IsServerOr supposed t l (t.links l)
      server_alike = by (is_to_server g.tale l) (t.links l) (stands.servers l)

  -- What clients have prepared, and what became due.

  made_alike : (view : View) (client : tales.Client) (number i : ℕ) (ms : List Framed)
      → prepared_by view supposed.plan client number i ms ≡ prepared_by view g.plan client number i ms
  made_alike view client number i [] = refl
  made_alike view client number i (message ∷ others) =
      ap (option_or (prepared_in number i message.payload (g.plan.routes (name_of client i)) (view.replies (name_of client i))))
      (made_alike view client number (suc i) others)

  prepared_alike : (client : tales.Client) (row : Client) → OwnsAlike client → IsPrepared g client row → IsPrepared supposed client row
  prepared_alike client row alike is = record {
    each = λ number one at.
        let was = is.each number one at in
        record {
          ordinal = was.ordinal;
          prepared = made_alike (view_on g) client number 1 (messages g.plan client) ∙ was.prepared;
          taken_up = was.taken_up;
          bound = was.bound;
          route = was.route;
          went = was.went;
          hostgroup = was.hostgroup;
          multiplex = was.multiplex;
          live = was.live;
        };
    unused = λ number greater.
        made_alike (view_on g) client number 1 (take (client.taken - 1) (messages g.plan client)) ∙ is.unused number greater;
    kept = λ answered number greater. made_alike (view_on g) client number 1 (take client.taken (messages g.plan client)) ∙ is.kept answered number greater;
    known = λ number made some has kept.
        is.known number made some (sym (made_alike (view_on g) client number 1 (take (client.taken - 1) (messages g.plan client))) ∙ has) kept;
    stands = λ answered number made some has kept.
        is.stands answered number made some (sym (made_alike (view_on g) client number 1 (take client.taken (messages g.plan client))) ∙ has) kept;
    unserved = λ ordinal some below mine. is.unserved ordinal some below (ap is_some (sym (alike ordinal below)) ∙ mine);
  }

  duly_alike : AreDuly g.setup g.plan g.tale.story → AreDuly g.setup supposed.plan g.tale.story
  duly_alike =
      became_so g.setup (IsDuly g.setup g.plan) (IsDuly g.setup supposed.plan)
      (λ n due is. record { route = is.route; routed = is.routed; hostgroup = is.hostgroup; multiplex = is.multiplex; keyed = is.keyed; whole = is.whole }) g.tale.story

  -- All of it, where each client stands alike, and of those who go on the same is answered.
  module _ (service : Service) (t : Tabled) (stands : Stands service g t)
      (owns : (x : tales.Client) → IsSeated g.tale x → (row : Client) → t.clients x.number ≡ Some row → is_ended row.desk.seat.phase ≡ false → OwnsAlike x)
      (rows : (x : tales.Client) → IsSeated g.tale x → IsClientOr g x (t.clients x.number) → IsClientOr supposed x (t.clients x.number)) where
    at_alike : (x : tales.Client) → IsSeated g.tale x → IsAt g t x → IsAt supposed t x
    at_alike x seated is = record { row = rows x seated is.row; found = is.found; aside = is.aside; alone = is.alone }

    known_alike : (c : ClientNo) (x : tales.Client) → IsKnown g c x → IsKnown supposed c x
    known_alike c x is = record { seated = is.seated; number = is.number }

    clients_alike : AreClients supposed t
    clients_alike = record {
      counted = stands.clients.counted;
      each = all_with (IsSeated g.tale) (IsAt g t) (IsAt supposed t) at_alike g.tale.clients (counted_seats g.tale stands.clients.counted) stands.clients.each;
      known = λ c row there. let known = stands.clients.known c row there in (known.0, known_alike c known.0 known.1);
      named = λ l c there. let named = stands.clients.named l c there in (named.0, known_alike c named.0 named.1, named.2, named.3);
    }

    pub stands_alike : Stands service supposed t
    stands_alike = record {
      service_is = stands.service_is;
      room_is = stands.room_is;
      clients = clients_alike;
      servers = λ l. server_alike t l service stands;
      homes = record { carried = stands.homes.carried; home = stands.homes.home };
      lawful = stands.lawful;
      prepared = λ client seated row there going.
          prepared_alike client row (owns client seated row there going) (stands.prepared client seated row there going);
      duly = duly_alike stands.duly;
    }
