-- What a client that is served says next.
use Rattle.std.specs.Prelude.{◌≡◌, ◌⊎◌, ◌||◌, ◌≤◌, ◌<◌, ◌+◌, ◌-◌, ℕ, suc, Bool, true, false, not, ◌&&◌, is_some, nat_eq, nat_lt, if◌then◌else◌, length, slice_get, take, List, [], ◌∷◌, ◌++◌, Option, Some, None}
use Rattle.std.proofs.Common.{◌∙◌, refl, sym, ap, subst, arith, append-nil, append_assoc, length-append, inl, inr}
use Rattle.std.proofs.lemmas.Bool.Decides.{nat_tests}
use Rattle.std.proofs.Math.Bool.{or-true}
use Rattle.std.proofs.lemmas.List.{length-take}
use Rattle.private_model.proofs.Maps.{same_number}
use Rattle.packet_frame.specs.FramerState.{FramerState, look, look_by, seen}
use Rattle.packet_frame.specs.Laws.{split-faulty, split-nothing}
use Rattle.packet_frame.specs.Packets.{Found, Framed, Split, first_message, next_id, spelling, split, with_front}
use Rattle.packet_frame.specs.Packets.Found.{Nothing, Whole, Faulty}
use Rattle.packet_frame.specs.declared.fault.FrameFault.{FrameFault}
use Rattle.server_side.specs.Account.{Account}
use Rattle.client_side.specs.Client.{counted}
use Rattle.client_side.specs.Login.{fault_id}
use Rattle.client_side.specs.Steps as steps
use Rattle.client_side.specs.declared.stage.Stage.{Stage}
use Rattle.client_session.specs.Answers.{fault_answer, frame_error, front, messages_of}
use Rattle.client_seat.proofs.Owing.{due-behind}
use Rattle.client_seat.specs.Seats.{has_room, is_ended}
use Rattle.client_seat.specs.Stands.{AreAnswered, IsHeardIn, IsNext, IsServed, IsWrittenOf, answer_by, answer_to, due_so_far}
use Rattle.client_seat.specs.Turns.{Turn, leaves, message_found, next_message, rests}
use Rattle.client_seat.specs.declared.next.Next.TheVariants as next
use Rattle.client_seat.specs.declared.phase.Phase.{Phase}
use Rattle.client_seat.specs.declared.phase.Phase.TheVariants as phase
use Rattle.client_seat.specs.declared.seat.Seat.{Seat}
use Rattle.private_model.specs.Commands.{Reply}
use Rattle.private_model.specs.Names.{ClientNo}
use Rattle.private_model.specs.Story.{is_client}
use Rattle.log_story.specs.Clients.{is_answered, is_up, waits_for_capture}
use Rattle.log_story.specs.Owed as owed
use Rattle.log_story.specs.Owed.{due_bytes, due_for, due_until, error_behind, messages, name_of, talk_of, unwritten, with_word}
use Rattle.log_story.specs.Plan.{Plan, own_at, word_at}
use Rattle.log_story.specs.Tale as tales
use Rattle.step_laws.specs.Taken.{IsIdle}
use Rattle.core_tables.specs.Tables.{Tabled}
use Rattle.core_tables.specs.declared.client.Client.{Client}
use Rattle.core_stands.specs.Clients.{IsClient, IsGoing, IsOwing, IsPhase}
use Rattle.core_stands.specs.Grounds.{Ground, known_on, view_on}
use Rattle.core_stands.specs.Stands.{Stands}
use Rattle.core_laws.specs.parting.Frames.{glance}
use Rattle.core_laws.specs.arrival.Looks.{LooksBy}
use Rattle.core_laws.specs.clients.Refusals.{is_denied}
use Rattle.core_laws.proofs.OfArrival.Changing.{reseat}
use Rattle.core_laws.proofs.OfArrival.Finding.{false-true}
use Rattle.core_laws.proofs.OfArrival.Grounding.{Aside, regrounded}
use Rattle.core_laws.proofs.OfArrival.Idling.{down-idles, lack-idles}
use Rattle.core_laws.proofs.OfArrival.Liking.{going-like}

-- the ground as it is looked at: the client isn't to be any more

abbrev pub unfresh : Ground → ClientNo → ClientNo → Bool
unfresh g c = λ other. not (is_client c other) && g.fresh other

abbrev pub looking : Ground → (fresh : ClientNo → Bool) → Aside
looking g fresh = record { moment = g.tale.moment; clients = g.tale.clients; over = g.over; fresh = fresh }

-- what is found at the front of what is kept is its next message
abbrev pub Nexts : Type 0
Nexts = (plan : Plan) (x : tales.Client) (s : Seat) (user : Account) (m : Framed) (later : List ℕ) → IsServed plan x s user
    → first_message plan.service.limit 0 s.client.framer.kept ≡ Whole m later → IsNext plan x m

get-end : (gone : List Framed) → slice_get (gone ++ []) (length gone) ≡ None
get-end [] = refl
get-end (one ∷ gone) = get-end gone

counted-so : (n : ℕ) → n + 1 < 18446744073709551616 → counted n ≡ suc n
counted-so n few = grind (arith, nat_tests)

-- an answer is there where the message is answered
there-so : (own : Option (List (List ℕ))) (reply : Option Reply) (number id : ℕ) → is_some own ≡ true ⊎ is_some reply ≡ true → is_some (answer_by own reply number id) ≡ true
there-so (Some payloads) reply number id is = refl
there-so None (Some reply) number id is = refl
there-so None None number id (inl is) = is
there-so None None number id (inr is) = is

either-so : (a b : Bool) → (a || b) ≡ true → (a ≡ true) ⊎ (b ≡ true)
either-so true b is = inl refl
either-so false b is = inr is

module _ (g : Ground) (now : Tabled) (client : tales.Client) (row : Client) where
  abbrev fresh : ClientNo → Bool
  fresh = unfresh g client.number

  abbrev by : Aside
  by = looking g fresh

  abbrev after : Ground
  after = regrounded by g

  abbrev c : ClientNo
  c = client.number

  -- what comes of a turn, by the row that is there then

  abbrev pub Outcome : Turn → Type 0
  Outcome turn = now.clients c ≡ Some (reseat turn.seat row) → LooksBy turn.next g.plan.service g now client row turn.seat

  abbrev pub Stood : Type 0
  Stood = (seat : Seat) → now.clients c ≡ Some (reseat seat row) → (glance (reseat seat row) ≡ glance row) ⊎ (row.desk.work ≡ None)
      → IsClient after client (reseat seat row) → Stands g.plan.service after now

  answered-by : (ordinal : ℕ) (message : Framed) → is_answered g.plan g.tale (view_on g) client (suc ordinal) ≡ true
      → is_some (answer_to (known_on g) client (suc ordinal) message) ≡ true
  answered-by ordinal message is =
      there-so (own_at g.plan g.tale.moment (name_of client (suc ordinal))) ((view_on g).replies (name_of client (suc ordinal)))
      (owed.number_of g.plan (name_of client (suc ordinal))) (next_id message.last)
      (either-so (is_some (own_at g.plan g.tale.moment (name_of client (suc ordinal)))) (is_some ((view_on g).replies (name_of client (suc ordinal)))) is)

  all-answered : (i : ℕ) (sent : List Framed) → suc i + length sent ≤ suc client.taken
      → ((ordinal : ℕ) → ordinal ≤ client.taken → is_answered g.plan g.tale (view_on g) client ordinal ≡ true) → AreAnswered (known_on g) client (suc i) sent
  all-answered i [] within each = tt
  all-answered i (message ∷ others) within each =
      (answered-by i message (each (suc i) (omega arith)), all-answered (suc i) others (omega arith) each)

  -- A seat that serves it.
  module _ (seat : Seat) (account : Account) (serves : seat.phase ≡ phase.Serving account) (own : IsClient after client (reseat seat row))
      (going : IsGoing after client (reseat seat row)) (idle : seat.answered ≡ true → row.desk.work ≡ None) (served : IsServed g.plan client seat account)
      (writes : IsWrittenOf client seat (due_so_far (known_on g) client)) (room : g.plan.room ≡ 1048576) (stood : Stood) where
    -- the same with another framer, which found or didn't

    abbrev framed : FramerState → ℕ → Seat
    framed framer first = record seat { client = record seat.client { framer = framer }; first = first }

    served-so : (framer : FramerState) (first : ℕ) → framer.limit ≡ seat.client.framer.limit → framer.kept ≡ seat.client.framer.kept → framer.fault ≡ None
        → IsServed g.plan client (framed framer first) account
    served-so framer first limit kept faultless = record {
      limit = limit ∙ served.limit;
      known = served.known;
      logged_in = served.logged_in;
      faultless = faultless;
      arrived = served.arrived;
      gone = served.gone;
      size = served.size;
      rest = served.rest ∙ ap (λ (bytes : List ℕ). with_front served.gone (split g.plan.service.limit 0 bytes)) (sym kept);
    }

    client-so : (framer : FramerState) (first : ℕ) → framer.limit ≡ seat.client.framer.limit → framer.kept ≡ seat.client.framer.kept → framer.fault ≡ None
        → (is_some row.desk.work ≡ true → first ≡ seat.first) → IsClient after client (reseat (framed framer first) row)
    client-so framer first limit kept faultless same = record {
      who = record { link = own.who.link; number = own.who.number; port = own.who.port; salt = own.who.salt; drained = own.who.drained };
      heard = subst (λ (at : Phase). IsHeardIn at g.plan client (framed framer first)) (sym serves)
          (served-so framer first limit kept faultless);
      owed = subst (λ (at : Phase). IsOwing at (fresh c) after client (framed framer first)) (sym serves)
          (record { written = writes.written; size = writes.size; all = writes.all });
      desk = record { number = own.desk.number; sessions = own.desk.sessions; place = own.desk.place; work = own.desk.work; row = own.desk.row };
      coming = own.coming;
      phase = subst (λ (at : Phase). IsPhase (is_ended at) after client (reseat (framed framer first) row)) (sym serves)
          (going-like after (looking after fresh) client client (record { number = refl; taken = refl; own = λ ordinal below. refl })
          (reseat seat row) (framed framer first) going.going refl refl (λ busy. (same busy, refl)) (λ busy message at. at) going.account going.collation going.unmoved going);
    }

    -- how much waits for it

    room-so : owed.has_room (view_on g).replies g.plan g.tale.moment client ≡ has_room seat
    room-so =
        let all : length (due_so_far (known_on g) client) ≡ length writes.written + length seat.outbox.due =
        ap (λ (bytes : List ℕ). length bytes) writes.all ∙ length-append writes.written seat.outbox.due in
        let left : unwritten (view_on g).replies g.plan g.tale.moment client ≡ length seat.outbox.due = omega (arith, all, writes.size) in
        λ i. nat_lt (left i) (room i)

    answered-so : seat.answered ≡ is_answered g.plan g.tale (view_on g) client client.taken
    answered-so = going.answered

    -- its bytes

    look-so : look 0 seat.client.framer ≡ first_message g.plan.service.limit 0 seat.client.framer.kept
    look-so =
        ap (λ (fault : Option FrameFault). look_by fault (first_message seat.client.framer.limit 0 seat.client.framer.kept)) served.faultless
        ∙ ap (λ (limit : ℕ). first_message limit 0 seat.client.framer.kept) served.limit

    lacks : first_message g.plan.service.limit 0 seat.client.framer.kept ≡ Nothing → slice_get (messages g.plan client) client.taken ≡ None
    lacks none =
        ap (λ (s : Split). slice_get s.messages client.taken) served.rest
        ∙ ap (λ (s : Split). slice_get (served.gone ++ s.messages) client.taken) (split-nothing g.plan.service.limit 0 seat.client.framer.kept none)
        ∙ ap (slice_get (served.gone ++ [])) (sym served.size) ∙ get-end served.gone

    -- nothing is whole, or there is no room

    rests-so : (framer : FramerState) → framer.limit ≡ seat.client.framer.limit → framer.kept ≡ seat.client.framer.kept → framer.fault ≡ None
        → (glance (reseat seat row) ≡ glance row) ⊎ (row.desk.work ≡ None) → IsIdle g.setup g.plan g.tale client → Outcome (rests (framed framer seat.first))
    rests-so framer limit kept faultless same none there = record {
      stands = stood (framed framer seat.first) there same (client-so framer seat.first limit kept faultless (λ busy. refl));
      idle = none;
    }

    and-first : (a b : Bool) → a ≡ false → a && b ≡ false
    and-first a b is = ap (λ (x : Bool). x && b) is

    and-third : (a b c : Bool) → c ≡ false → a && (b && c) ≡ false
    and-third true true c is = is
    and-third true false c is = refl
    and-third false b c is = refl

    and-all : (a b c : Bool) → a ≡ true → b ≡ true → c ≡ true → a && (b && c) ≡ true
    and-all a b c one two three = λ i. one i && (two i && three i)

    -- a message came up

    up-so : waits_for_capture (view_on g) g.plan client ≡ false → seat.answered ≡ true → has_room seat ≡ true → is_up g.setup g.plan client g.tale ≡ true
    up-so captured answered roomy = and-all _ _ _ (sym answered-so ∙ answered) (ap not captured) (room-so ∙ roomy)

    found-so : (message : Framed) (rest : List ℕ) → first_message g.plan.service.limit 0 seat.client.framer.kept ≡ Whole message rest
        → Nexts
        → client.taken + 1 < 18446744073709551616 → waits_for_capture (view_on g) g.plan client ≡ false → seat.answered ≡ true
        → (room_now : Bool) → has_room seat ≡ room_now
        → Outcome (if room_now then record { seat = framed (seen seat.client.framer (Whole message rest)) (next_id message.last); next = next.Message (counted seat.client.arrived) }
        else rests (framed (seen seat.client.framer (Whole message rest)) seat.first))
    found-so message rest whole nexts few captured answered true roomy there = record {
      stands = stood (framed (seen seat.client.framer (Whole message rest)) (next_id message.last)) there (inr (idle answered))
          (client-so (seen seat.client.framer (Whole message rest)) (next_id message.last) refl refl served.faultless
          (λ busy. false-true (is_some row.desk.work) (ap is_some (idle answered)) busy));
      up = record {
        account = account;
        serves = serves;
        served = served-so (seen seat.client.framer (Whole message rest)) (next_id message.last) refl refl served.faultless;
        message = message;
        rest = rest;
        whole = whole;
        found = refl;
        next = nexts g.plan client seat account message rest served whole;
        counts = ap counted served.arrived ∙ counted-so client.taken few;
        up = up-so captured answered roomy;
        answered = answered;
        first = refl;
      };
    }
    found-so message rest whole nexts few captured answered false full there =
        rests-so (seen seat.client.framer (Whole message rest)) refl refl served.faultless (inr (idle answered))
        (down-idles g.setup g.plan client g.tale (and-third _ _ _ (room-so ∙ full))) there

    -- bytes that are no packets

    fault-in : (fault : FrameFault) → first_message g.plan.service.limit 0 seat.client.framer.kept ≡ Faulty fault
        → messages_of (talk_of g.plan client) ≡ record { messages = served.gone ++ []; rest = seat.client.framer.kept; fault = Some fault }
    fault-in fault is =
        served.rest
        ∙ ap (with_front served.gone) (split-faulty g.plan.service.limit 0 seat.client.framer.kept fault is)

    faulty-due : (fault : FrameFault) → first_message g.plan.service.limit 0 seat.client.framer.kept ≡ Faulty fault → seat.answered ≡ true
        → word_at g.plan g.tale.moment c ≡ None
        → due_bytes (view_on g).replies g.plan g.tale.moment client
        ≡ due_so_far (known_on g) client ++ spelling (fault_id 0 fault) (frame_error g.plan.service.limit fault)
    faulty-due fault is answered silent =
        let split_so = fault-in fault is in
        let size : length (messages g.plan client) ≡ client.taken =
        ap (λ (s : Split). length s.messages) split_so ∙ length-append served.gone [] ∙ omega (arith, served.size) in
        let behind : error_behind g.plan client ≡ fault_answer g.plan.service.limit (Some fault) =
        ap (λ (n : ℕ). if nat_eq client.taken n then fault_answer g.plan.service.limit (messages_of (talk_of g.plan client)).fault else []) size
        ∙ ap (λ (b : Bool). if b then fault_answer g.plan.service.limit (messages_of (talk_of g.plan client)).fault else []) (same_number client.taken)
        ∙ ap (λ (s : Split). fault_answer g.plan.service.limit s.fault) split_so in
        let each : (ordinal : ℕ) → ordinal ≤ client.taken → is_answered g.plan g.tale (view_on g) client ordinal ≡ true = every in
        ap (with_word (talk_of g.plan client) (due_until (view_on g).replies g.plan g.tale.moment client)) silent
        ∙ ap (λ (due : List ℕ). front (talk_of g.plan client) ++ due)
        (due-behind (known_on g) client (error_behind g.plan client) 1 (take client.taken (messages g.plan client))
        (all-answered 0 (take client.taken (messages g.plan client)) (omega (arith, length-take client.taken (messages g.plan client))) each))
        ∙ sym (append_assoc (front (talk_of g.plan client)) (due_for (view_on g).replies g.plan g.tale.moment client [] 1 (take client.taken (messages g.plan client))) (error_behind g.plan client))
        ∙ ap (λ (last : List ℕ). due_so_far (known_on g) client ++ last) behind where
          last-or : (ordinal : ℕ) → ordinal ≤ client.taken → (ordinal < client.taken) ⊎ (ordinal ≡ client.taken)
          last-or ordinal below = grind arith

          every-by : (ordinal : ℕ) → (ordinal < client.taken) ⊎ (ordinal ≡ client.taken) → is_answered g.plan g.tale (view_on g) client ordinal ≡ true
          every-by ordinal (inl less) = going.earlier ordinal less
          every-by ordinal (inr same) = ap (is_answered g.plan g.tale (view_on g) client) same ∙ sym answered-so ∙ answered

          every : (ordinal : ℕ) → ordinal ≤ client.taken → is_answered g.plan g.tale (view_on g) client ordinal ≡ true
          every ordinal below = every-by ordinal (last-or ordinal below)

    faulty-so : (fault : FrameFault) → first_message g.plan.service.limit 0 seat.client.framer.kept ≡ Faulty fault → seat.answered ≡ true
        → Outcome (leaves (spelling (fault_id 0 fault) (frame_error g.plan.service.limit fault)) (framed (seen seat.client.framer (Faulty fault)) seat.first))
    faulty-so fault is answered there = record {
      who = record { link = own.who.link; number = own.who.number; port = own.who.port; salt = own.who.salt; drained = own.who.drained };
      ended = refl;
      idle = idle answered;
      rested = lack-idles g.setup g.plan client g.tale
          (ap (λ (s : Split). slice_get s.messages client.taken) (fault-in fault is) ∙ ap (slice_get (served.gone ++ [])) (sym served.size)
          ∙ get-end served.gone);
      refused = ap (λ (s : Split). is_denied (talk_of g.plan client) || is_some s.fault) (fault-in fault is) ∙ or-true (is_denied (talk_of g.plan client));
      owed = λ silent. record {
        written = writes.written;
        size = writes.size;
        front = record {
          rest = [];
          is =
              append-nil (writes.written ++ (seat.outbox.due ++ spelling (fault_id 0 fault) (frame_error g.plan.service.limit fault)))
              ∙ sym (append_assoc writes.written seat.outbox.due (spelling (fault_id 0 fault) (frame_error g.plan.service.limit fault)))
              ∙ ap (λ (said : List ℕ). said ++ spelling (fault_id 0 fault) (frame_error g.plan.service.limit fault)) (sym writes.all)
              ∙ sym (faulty-due fault is answered silent);
        };
      };
    }

    -- All of them.

    by-found : Nexts → client.taken + 1 < 18446744073709551616 → waits_for_capture (view_on g) g.plan client ≡ false → seat.answered ≡ true
        → (found : Found) → first_message g.plan.service.limit 0 seat.client.framer.kept ≡ found
        → Outcome (message_found g.plan.service.limit (steps.command_found seat.client found) seat)
    by-found nexts few captured answered Nothing is =
        rests-so (seen seat.client.framer Nothing) refl refl served.faultless (inr (idle answered)) (lack-idles g.setup g.plan client g.tale (lacks is))
    by-found nexts few captured answered (Whole message rest) is = found-so message rest is nexts few captured answered (has_room seat) refl
    by-found nexts few captured answered (Faulty fault) is = faulty-so fault is answered

    pub says-so : Nexts → client.taken + 1 < 18446744073709551616 → waits_for_capture (view_on g) g.plan client ≡ false
        → (glance (reseat seat row) ≡ glance row) ⊎ (row.desk.work ≡ None) → Outcome (next_message g.plan.service.limit seat)
    says-so nexts few captured same = by-answered seat.answered refl where
      by-answered : (b : Bool) → seat.answered ≡ b
          → Outcome (if b then message_found g.plan.service.limit (steps.next_of seat.client.stage seat.client) seat else rests seat)
      by-answered true answered =
          subst (λ (at : Stage). Outcome (message_found g.plan.service.limit (steps.next_of at seat.client) seat)) (sym served.logged_in)
          (subst (λ (found : Found). Outcome (message_found g.plan.service.limit (steps.command_found seat.client found) seat)) (sym look-so)
          (by-found nexts few captured answered (first_message g.plan.service.limit 0 seat.client.framer.kept) refl))
      by-answered false waiting =
          rests-so seat.client.framer refl refl served.faultless same
          (down-idles g.setup g.plan client g.tale (and-first _ _ (sym answered-so ∙ waiting)))
