-- A client stands once its next message was taken up.
use Rattle.std.specs.Prelude.{◌≡◌, ◌<◌, ◌≤◌, ℕ, zero, suc, ◌+◌, ◌-◌, nat_eq, slice_index_or, Bool, true, false, not, ◌||◌, is_some, if◌then◌else◌, List, [], ◌++◌, slice_get, Option, Some, None}
use Rattle.std.specs.Option.{option_map}
use Rattle.std.proofs.Common.{refl, sym, ap, ◌∙◌, subst, arith}
use Rattle.packet_frame.specs.Packets.{Framed, first_message, next_id, spellings, split, with_front}
use Rattle.packet_frame.specs.Packets.Found.{Whole}
use Rattle.server_side.specs.Account.{Account}
use Rattle.private_model.specs.Commands.{Command}
use Rattle.private_model.specs.Names.{ClientNo, Hostgroup, MessageName, SessionName}
use Rattle.private_model.specs.Story.{BecameDue}
use Rattle.private_model.specs.View.{Held, Setup, View, due_of, present, view_step}
use Rattle.server_rule.specs.Classes.{Reads}
use Rattle.log_story.specs.Clients.{is_answered}
use Rattle.log_story.specs.Owed.{messages, name_of, number_of}
use Rattle.log_story.specs.Plan.{Plan, Route, com_prepare, own_at}
use Rattle.link_state.specs.declared.wish.Command as links
use Rattle.link_state.specs.declared.wish.Command.TheVariants.{Plain, Prepare, Execute}
use Rattle.log_story.specs.Tale as tales
use Rattle.log_story.specs.Tale.{Tale, tell, with_client}
use Rattle.step_laws.specs.Taken.{next_of}
use Rattle.stmt_map.specs.declared.client.ClientStatements.{ClientStatements}
use Rattle.client_seat.proofs.Hearing.{served-taken}
use Rattle.client_seat.proofs.Keeping.{more-due}
use Rattle.client_seat.specs.Answers.{grown, replied}
use Rattle.client_side.specs.Client.{ClientState}
use Rattle.session_vars.specs.Settings.{collation_settings}
use Rattle.client_seat.specs.Seats.{account_in, is_ended}
use Rattle.client_seat.specs.Stands.{IsHeardIn, IsNext, IsServed, IsWrittenOf, due_so_far}
use Rattle.client_seat.specs.Takings.{begun_anew, passed, taken_to}
use Rattle.client_seat.specs.declared.phase.Phase.{Phase}
use Rattle.client_seat.specs.declared.phase.Phase.TheVariants as phase
use Rattle.client_seat.specs.declared.seat.Seat.{Seat}
use Rattle.client_desk.specs.Desks.{session_of, taken_on}
use Rattle.client_desk.specs.declared.desk.Desk.{Desk}
use Rattle.client_desk.specs.declared.work.Work.{Work}
use Rattle.desk_laws.proofs.Dues.{due_before, due_next}
use Rattle.desk_laws.specs.Stands.{AreDueEarlier, AreToCome, IsDesk, IsPlaced, IsRequest, IsSession, kind_of, message_at, name_at}
use Rattle.core_tables.specs.Arrivals.{seated}
use Rattle.core_tables.specs.Taking.{answers, goes, goes_found, passes_found}
use Rattle.core_tables.specs.declared.client.Client.{Client}
use Rattle.core_stands.specs.Clients.{IsNumberedNext, IsClient, IsGoing, IsOwing, IsPhase, IsWorkingOr}
use Rattle.core_stands.specs.Grounds.{Ground, known_on, on, view_on}
use Rattle.core_laws.specs.arrival.Ups.{IsUpNext}
use Rattle.core_laws.proofs.OfTaking.Standing.{prepare_byte}
use Rattle.core_laws.proofs.OfWriting.Numbering.{number_routed, prepare_key, unnumbered}
use Rattle.core_laws.specs.taking.Takes.{IsNumberedAs, IsSent, is_reset, own_of, route_of}
use Rattle.core_laws.proofs.OfTaking.Owing.{all_answered, are_answered, due_size, due_with, due_without}

some_is : {A : Type 0} (a b : A) → Some a ≡ Some b → a ≡ b
some_is a b is = cc

none_is : {A : Type 0} (o : Option A) → is_some o ≡ false → o ≡ None
none_is None e = refl
none_is (Some x) e = absurd (cc)

-- at any tale of this moment, with the same replies
answered_as : (plan : Plan) (a b : Tale) (seen was : View) (client : tales.Client) (ordinal : ℕ) → a.moment ≡ b.moment
    → ((m : MessageName) → seen.replies m ≡ was.replies m)
    → is_answered plan a seen (next_of client) ordinal ≡ is_answered plan b was client ordinal
answered_as plan a b seen was client zero same replies = refl
answered_as plan a b seen was client (suc ordinal) same replies =
    λ i. is_some (own_at plan (same i) (name_of client (suc ordinal))) || is_some (replies (name_of client (suc ordinal)) i)

-- what is found of a message that came up, whatever is known of its client beside
pub record IsFound (plan : Plan) (client : tales.Client) (seat : Seat) : Type 0 where
  pub account : Account
  pub serves : seat.phase ≡ phase.Serving account
  pub served : IsServed plan client seat account
  pub message : Framed
  pub rest : List ℕ
  pub whole : first_message plan.service.limit 0 seat.client.framer.kept ≡ Whole message rest
  pub found : seat.client.framer.found ≡ Some message
  pub next : IsNext plan client message
  pub answered : seat.answered ≡ true
  pub first : seat.first ≡ next_id message.last

abbrev pub found_up : (g : Ground) (client : tales.Client) (seat : Seat) → IsUpNext g client seat (suc client.taken) → IsFound g.plan client seat
found_up g client seat up = record {
  account = up.account;
  serves = up.serves;
  served = up.served;
  message = up.message;
  rest = up.rest;
  whole = up.whole;
  found = up.found;
  next = up.next;
  answered = up.answered;
  first = up.first;
}

-- a law of desks
abbrev pub Seats : Type 0
Seats = (reads : Reads) (view : View) (c : ClientNo) (desk : Desk) → IsDesk reads view c desk → (new : Seat)
    → new.client.number ≡ desk.seat.client.number → new.place ≡ desk.seat.place → IsPlaced new.phase view c new.place
    → IsDesk reads view c (record desk { seat = new })

abbrev pub Dues : Type 0
Dues = (setup : Setup) (view : View) (c : ClientNo) (desk : Desk) → IsDesk setup.reads view c desk
    → (work : Work) (ordinal key : ℕ) (command : Command) (multiplex : Option Bool) → IsRequest setup.reads ordinal key command multiplex work
    → view.places c ≡ desk.seat.place → view.carriers (message_at c ordinal) ≡ None → view.replies (message_at c ordinal) ≡ None
    → IsDesk setup.reads (view_step setup view (BecameDue c work.hostgroup ordinal key command multiplex)) c (taken_on work desk)

module _ (g : Ground) (client : tales.Client) (row : Client) (is : IsClient g client row) (up : IsFound g.plan client row.desk.seat) where
  abbrev pub seat : Seat
  seat = row.desk.seat

  going : IsGoing g client row
  going = subst (λ (at : Phase). IsPhase (is_ended at) g client row) up.serves is.phase

  pub idle : row.desk.work ≡ None
  idle = none_is row.desk.work (going.busy ∙ ap not up.answered)

  pub nothing_coming : seat.outbox.coming ≡ []
  nothing_coming = subst (λ (work : Option Work). IsWorkingOr g client row work) idle going.working

  pub settings_are : (g.setup.places client.number).settings ≡ collation_settings seat.collation
  settings_are = going.collation up.account (ap account_in up.serves)

  abbrev Answered : ℕ → Type 0
  Answered ordinal = is_answered g.plan g.tale (view_on g) client ordinal ≡ true

  answered_all : (ordinal : ℕ) → ordinal < suc client.taken → Answered ordinal
  answered_all = all_answered Answered client.taken going.earlier (sym going.answered ∙ up.answered)

  pub owed : IsWrittenOf client seat (due_so_far (known_on g) client)
  owed = subst (λ (at : Phase). IsOwing at (g.fresh client.number) g client seat) up.serves is.owed

  pub placed : (view_on g).places client.number ≡ seat.place
  placed = subst (λ (at : Phase). IsPlaced at (view_on g) client.number seat.place) up.serves is.desk.place

  to_come : (view : View) → ((m : MessageName) → view.carriers m ≡ (view_on g).carriers m) → ((m : MessageName) → view.replies m ≡ (view_on g).replies m)
      → AreDueEarlier view.dues view.carriers client.number (suc (suc client.taken)) → AreToCome view client.number (suc (suc client.taken))
  to_come view carriers replies due = record {
    unsent = λ ordinal below. carriers (message_at client.number ordinal) ∙ is.coming.unsent ordinal (omega arith);
    unanswered = λ ordinal below. replies (message_at client.number ordinal) ∙ is.coming.unanswered ordinal (omega arith);
    due = due;
  }

  module _ (few : client.taken + 1 < 18446744073709551616) (flag : ℕ) (statements : ClientStatements) where
    served_by : (new : Seat) → new.client ≡ (passed flag up.message seat).client → IsServed g.plan (next_of client) new up.account
    served_by new same = rebuilt (served-taken g.plan client seat up.account flag up.message up.rest up.served up.whole few) where
      rebuilt : IsServed g.plan (next_of client) (passed flag up.message seat) up.account → IsServed g.plan (next_of client) new up.account
      rebuilt was = record {
        limit = ap (λ (c : ClientState). c.framer.limit) same ∙ was.limit;
        known = was.known;
        logged_in = ap (λ (c : ClientState). c.stage) same ∙ was.logged_in;
        faultless = ap (λ (c : ClientState). c.framer.fault) same ∙ was.faultless;
        arrived = ap (λ (c : ClientState). c.arrived) same ∙ was.arrived;
        gone = was.gone;
        size = was.size;
        rest = was.rest ∙ ap (λ (c : ClientState). with_front was.gone (split g.plan.service.limit 0 c.framer.kept)) (sym same);
      }

    heard_by : (new : Seat) → new.client ≡ (passed flag up.message seat).client → IsHeardIn seat.phase g.plan (next_of client) new
    heard_by new same = subst (λ (at : Phase). IsHeardIn at g.plan (next_of client) new) (sym up.serves) (served_by new same)

    -- The router answers it.

    abbrev pub answered_seat : (packets : List ℕ) → Seat
    answered_seat packets = replied (grown packets (record (passed flag up.message seat) { statements = statements }))

    abbrev pub answered_row : (packets : List ℕ) → Client
    answered_row packets = record row { desk = record row.desk { seat = answered_seat packets }; went = None }

    pub answers_is : (packets : List ℕ) → is_reset up.message ≡ false → answers flag packets statements row ≡ answered_row packets
    answers_is packets plain =
        ap (λ (found : Option Framed). seated (λ (s : Seat). replied (grown packets s)) (passes_found flag statements found row)) up.found
        ∙ ap (λ (b : Bool). record row {
          desk = record row.desk {
            seat = replied (grown packets (record (passed flag up.message (if b then begun_anew seat else seat)) { statements = statements }));
          };
          went = None;
        }) plain

    owed_with : (payloads : List (List ℕ)) (packets : List ℕ) → own_of g client ≡ Some payloads → packets ≡ spellings seat.first payloads
        → IsWrittenOf (next_of client) (answered_seat packets) (due_so_far (known_on g) (next_of client))
    owed_with payloads packets own says =
        let spelt : packets ≡ spellings (next_id up.message.last) payloads = says ∙ ap (λ (id : ℕ). spellings id payloads) up.first in
        let more : (answered_seat packets).outbox.due ≡ seat.outbox.due ++ packets =
        ap (λ (coming : List ℕ). seat.outbox.due ++ (coming ++ packets)) nothing_coming in
        let all : due_so_far (known_on g) (next_of client) ≡ due_so_far (known_on g) client ++ packets =
        due_with (known_on g) client up.message up.next payloads own
        (are_answered (known_on g) g.tale refl client 0 _ (λ ordinal below. answered_all ordinal (omega (arith, due_size (known_on g) client up.message up.next))))
        ∙ ap (λ (bytes : List ℕ). due_so_far (known_on g) client ++ bytes) (sym spelt) in
        let was = more-due client seat (answered_seat packets) (due_so_far (known_on g) client) packets more owed in
        record { written = was.written; size = was.size; all = all ∙ was.all }

    pub answered_stands : Seats → (payloads : List (List ℕ)) (packets : List ℕ) → route_of g client ≡ None → own_of g client ≡ Some payloads
        → packets ≡ spellings seat.first payloads
        → IsClient (on g (with_client (next_of client) g.tale)) (next_of client) (answered_row packets)
    answered_stands seats payloads packets unrouted own says =
        let after : Ground = on g (with_client (next_of client) g.tale) in
        record {
          who = record { link = is.who.link; number = is.who.number; port = is.who.port; salt = is.who.salt; drained = is.who.drained };
          heard = heard_by (answered_seat packets) refl;
          owed = subst (λ (at : Phase). IsOwing at (g.fresh client.number) after (next_of client) (answered_seat packets)) (sym up.serves)
              (owed_with payloads packets own says);
          desk = seats g.setup.reads (view_on g) client.number row.desk is.desk (answered_seat packets) refl refl is.desk.place;
          coming = to_come (view_on g) (λ m. refl) (λ m. refl)
              (due_before (view_on g).dues (view_on g).carriers client.number (suc client.taken) is.coming.due (suc (suc client.taken)) (omega arith));
          phase = subst (λ (at : Phase). IsPhase (is_ended at) after (next_of client) (answered_row packets)) (sym up.serves) (record {
            going = going.going;
            earlier = λ ordinal below. answered_as g.plan after.tale g.tale (view_on g) (view_on g) client ordinal refl (λ m. refl) ∙ answered_all ordinal below;
            answered = sym (ap (λ (o : Option (List (List ℕ))). is_some o || is_some ((view_on g).replies (name_of client (suc client.taken)))) own);
            went = sym (ap (option_map (λ (route : Route). route.hostgroup)) unrouted);
            busy = ap is_some idle;
            working = subst (λ (work : Option Work). IsWorkingOr after (next_of client) (answered_row packets) work) (sym idle) refl;
            unmoved = going.unmoved;
            account = going.account;
            collation = going.collation;
          });
        }

    -- It goes to a server.

    abbrev pub sent_seat : Work → Seat
    sent_seat work = taken_to work.hostgroup flag up.message statements seat

    abbrev pub sent_row : Work → Client
    sent_row work = record row { desk = taken_on work (record row.desk { seat = sent_seat work }); went = Some work.hostgroup }

    pub goes_is : (work : Work) → goes flag work statements row ≡ sent_row work
    goes_is work = ap (λ (found : Option Framed). goes_found flag work statements found row) up.found

    owed_without : (work : Work) → own_of g client ≡ None
        → IsWrittenOf (next_of client) (sent_seat work) (due_so_far (known_on g) (next_of client))
    owed_without work own =
        let all : due_so_far (known_on g) (next_of client) ≡ due_so_far (known_on g) client =
        due_without (known_on g) client up.message up.next own (is.coming.unanswered (suc client.taken) (omega arith)) in
        record { written = owed.written; size = owed.size; all = all ∙ owed.all }

    module _ (route : Route) (command : Command) (work : Work) (sends : IsSent g client up.message route command work) where
      abbrev after : Ground
      after = on g (with_client (next_of client)
          (tell (BecameDue client.number work.hostgroup (suc client.taken) work.key command route.multiplex) g.tale))

      abbrev due_name : SessionName
      due_name = present (view_on g) client.number work.hostgroup

      due_then : AreDueEarlier (view_on after).dues (view_on after).carriers client.number (suc (suc client.taken))
      due_then =
          let some : 0 < suc client.taken = omega arith in
          let next : suc client.taken ≤ suc client.taken = omega arith in
          due_next (view_on g).dues (view_on g).carriers client.number (suc client.taken) is.coming.due due_name
          (due_of (view_on g) due_name (suc client.taken) work.key command route.multiplex) some next
          (is.coming.unsent (suc client.taken) (omega arith))

      sent_desk : Seats → Dues → IsDesk g.setup.reads (view_on after) client.number (sent_row work).desk
      sent_desk seats dues =
          dues g.setup (view_on g) client.number (record row.desk { seat = sent_seat work })
          (seats g.setup.reads (view_on g) client.number row.desk is.desk (sent_seat work) refl refl is.desk.place)
          work (suc client.taken) work.key command route.multiplex sends.request placed
          (is.coming.unsent (suc client.taken) (omega arith)) (is.coming.unanswered (suc client.taken) (omega arith))

      first_of : (message : Framed) → slice_get (messages g.plan client) (suc client.taken - 1) ≡ Some message → seat.first ≡ next_id message.last
      first_of message there =
          let at : suc client.taken - 1 ≡ client.taken = omega arith in
          let one : Some message ≡ Some up.message = sym there ∙ ap (slice_get (messages g.plan client)) at ∙ up.next.next in
          up.first ∙ ap (λ (m : Framed). next_id m.last) (sym (some_is message up.message one))

      -- what it prepares
      prepares_of : kind_of command ≡ Prepare → (message : Framed) → slice_get (messages g.plan client) (suc client.taken - 1) ≡ Some message
          → nat_eq (slice_index_or message.payload 0 0) com_prepare ≡ true
      prepares_of kind message there =
          let at : suc client.taken - 1 ≡ client.taken = omega arith in
          let one : Some message ≡ Some up.message = sym there ∙ ap (slice_get (messages g.plan client)) at ∙ up.next.next in
          ap (λ (m : Framed). nat_eq (slice_index_or m.payload 0 0) com_prepare) (some_is message up.message one)
          ∙ prepare_byte g.setup (view_on g) g.plan client (suc client.taken) route up.message.payload command work.key kind sends.asked

      numbered_next : IsNumberedAs route work seat.statements → statements.last ≡ seat.statements.last → work.command ≡ Prepare
          → IsNumberedNext after (next_of client) (sent_row work) work
      numbered_next numbered last prepares =
          let next = numbered prepares in (
            ap (λ (k : ℕ). number_of g.plan (name_of client k)) (sym sends.request.ordinal_is)
                ∙ number_routed g.plan (name_of client (suc client.taken)) route sends.routed ∙ next.0 ∙ ap (λ (n : ℕ). n + 1) (sym last),
            subst (λ (n : ℕ). n < 4294967295) (sym last) next.1,
          )

      prepares_only : 0 < number_of g.plan (name_of client work.ordinal) → kind_of command ≡ Prepare
      prepares_only some = by (kind_of command) refl where
        routed_so : number_of g.plan (name_of client work.ordinal) ≡ route.number
        routed_so =
            ap (λ (k : ℕ). number_of g.plan (name_of client k)) (sym sends.request.ordinal_is)
            ∙ number_routed g.plan (name_of client (suc client.taken)) route sends.routed

        none : (kind_of command ≡ Prepare → ⊥) → ⊥
        none other =
            let zero_so : route.number ≡ 0 = unnumbered g.setup route (due_of (view_on g) due_name (suc client.taken) work.key command route.multiplex) command sends.keyed other in
            let same : number_of g.plan (name_of client work.ordinal) ≡ 0 = routed_so ∙ zero_so in
            omega (arith, same, some)

        by : (kind : links.Command) → kind_of command ≡ kind → kind_of command ≡ Prepare
        by Prepare is = is
        by Plain is = absurd (none (λ same. let no : Plain ≡ Prepare = sym is ∙ same in cc))
        by Execute is = absurd (none (λ same. let no : Execute ≡ Prepare = sym is ∙ same in cc))

      pub sent_stands : Seats → Dues → IsNumberedAs route work seat.statements → statements.last ≡ seat.statements.last
          → IsClient after (next_of client) (sent_row work)
      sent_stands seats dues numbered last = record {
        who = record { link = is.who.link; number = is.who.number; port = is.who.port; salt = is.who.salt; drained = is.who.drained };
        heard = heard_by (sent_seat work) refl;
        owed = subst (λ (at : Phase). IsOwing at (g.fresh client.number) after (next_of client) (sent_seat work)) (sym up.serves)
            (owed_without work sends.unanswered);
        desk = sent_desk seats dues;
        coming = to_come (view_on after) (λ m. refl) (λ m. refl) due_then;
        phase = subst (λ (at : Phase). IsPhase (is_ended at) after (next_of client) (sent_row work)) (sym up.serves) (record {
          going = going.going;
          earlier = λ ordinal below. answered_as g.plan after.tale g.tale (view_on after) (view_on g) client ordinal refl (λ m. refl) ∙ answered_all ordinal below;
          answered = unanswered;
          went = ap Some sends.hostgroup ∙ sym (ap (option_map (λ (r : Route). r.hostgroup)) sends.routed);
          busy = refl;
          working = record {
            last = sym sends.request.ordinal_is;
            went = refl;
            number = numbered_next numbered last;
            only = λ numbered_so. sym sends.request.kind ∙ prepares_only numbered_so;
            prepares = λ prepares. prepares_of (sends.request.kind ∙ prepares);
            keyed = λ prepares other routed.
                ap (λ (r : Route). r.key) (sym (some_is route other (sym sends.routed ∙ routed)))
                ∙ prepare_key g.setup route (due_of (view_on g) due_name (suc client.taken) work.key command route.multiplex) command
                (sends.request.kind ∙ prepares) sends.keyed;
            first = first_of;
            unsent = λ is_unsent. nothing_coming;
            there = λ is_sent. absurd (cc);
          };
          unmoved = λ outside. let no : phase.Serving up.account ≡ phase.LoggingIn = sym up.serves ∙ outside in absurd (cc);
          account = going.account;
          collation = going.collation;
        });
      } where
        unanswered : false ≡ is_answered g.plan after.tale (view_on after) (next_of client) (suc client.taken)
        unanswered = sym (λ i. is_some (sends.unanswered i) || is_some (is.coming.unanswered (suc client.taken) (omega arith) i))

      pub works : (other : Work) → (sent_row work).desk.work ≡ Some other → other.ordinal ≡ suc client.taken
      works other there = ap (λ (w : Work). w.ordinal) (sym (some_is _ other there)) ∙ sym sends.request.ordinal_is

      module _ (seats : Seats) (dues : Dues) (h : Hostgroup) where
        session_now : IsSession (view_on after) client.number h (session_of (sent_row work).desk h)
        session_now = (sent_desk seats dues).sessions.each h

        session_then : IsSession (view_on g) client.number h (session_of row.desk h)
        session_then = is.desk.sessions.each h

        pub life_is : (session_of (sent_row work).desk h).life ≡ (session_of row.desk h).life
        life_is = sym session_now.life ∙ session_then.life

        pub home_is : (session_of (sent_row work).desk h).home ≡ (session_of row.desk h).home
        home_is =
            ap (λ (held : Held). held.home) (sym session_now.held
            ∙ ap (λ (life : ℕ). (view_on g).held (name_at client.number h life)) life_is ∙ session_then.held)
