-- What a client says next that logs in.
use Rattle.std.specs.Prelude.{◌≡◌, ◌<◌, ◌+◌, ℕ, Bool, true, false, not, ◌||◌, is_none, is_some, nat_eq, if◌then◌else◌, length, slice_get, take, List, [], ◌++◌, Option, Some, None}
use Rattle.std.proofs.Common.{◌∙◌, refl, sym, ap, subst, append-nil, append_assoc, inr}
use Rattle.handshake.specs.declared.response.Response.{Response}
use Rattle.packet_frame.specs.Laws.{first_message-empty, split-nothing}
use Rattle.packet_frame.specs.Packets.{Split, spelling, split}
use Rattle.server_side.specs.Account.{Account}
use Rattle.client_side.specs.Client.{ClientState, IsSame, login_of}
use Rattle.client_side.specs.HeldUp.{next_same}
use Rattle.client_side.specs.Login.{Fails, Opening, Says, Waits, login_limit, opening}
use Rattle.client_side.specs.Reading.{HasStepped, IsLoggingIn, said_to}
use Rattle.client_side.specs.Reading as reading
use Rattle.client_side.specs.Steps as steps
use Rattle.client_side.specs.Steps.{next_of}
use Rattle.client_side.specs.declared.stage.Stage.{Stage}
use Rattle.client_side.specs.declared.stage.Stage.TheVariants as stage
use Rattle.client_side.specs.declared.step.ClientFault.{ClientFault}
use Rattle.client_side.specs.declared.step.ClientStep.{ClientStep}
use Rattle.client_side.specs.declared.step.ClientStep.TheVariants as says
use Rattle.client_session.specs.Accounts.{account_of, denial_of}
use Rattle.client_session.specs.Answers as talks
use Rattle.client_session.specs.Answers.{commands_in, fault_answer, fault_error, front_in, greeted, if_known, login_answer, messages_of, opening_of}
use Rattle.client_seat.specs.Seats.{account_in, is_ended}
use Rattle.client_seat.specs.Stands.{IsEntering, IsHeardIn, IsServed, IsWho, IsWrittenOf, Known, due_so_far}
use Rattle.client_seat.specs.Turns.{admitted, leaves, login_found, logs_in_as, logs_in_if, looks_in, next_message, stepped, stepped_in}
use Rattle.client_seat.specs.declared.phase.Phase.{Phase}
use Rattle.client_seat.specs.declared.phase.Phase.TheVariants as phase
use Rattle.client_seat.specs.declared.seat.Seat.{Seat}
use Rattle.private_model.specs.Names.{ClientNo}
use Rattle.session_state.specs.declared.place.Place.{Place}
use Rattle.session_vars.specs.Settings.{collation_settings}
use Rattle.log_story.specs.Clients.{is_answered, waits_for_capture}
use Rattle.log_story.specs.Owed.{due_bytes, due_for, due_until, error_behind, messages, talk_of, with_word}
use Rattle.log_story.specs.Plan.{Plan, word_at}
use Rattle.log_story.specs.Servers.{logged_in_as}
use Rattle.log_story.specs.Tale as tales
use Rattle.client_desk.specs.declared.work.Work.{Work}
use Rattle.desk_laws.specs.Stands.{IsDesk, IsPlaced, IsWorkOr}
use Rattle.core_tables.specs.Tables.{Tabled}
use Rattle.core_tables.specs.declared.client.Client.{Client}
use Rattle.core_stands.specs.Clients.{IsClient, IsGoing, IsOwing, IsPhase, IsWorkingOr}
use Rattle.core_stands.specs.Grounds.{Ground, known_on, view_on}
use Rattle.core_laws.specs.arrival.Looks.{IsLetIn}
use Rattle.core_laws.specs.clients.Refusals.{is_denied_by, is_garbled}
use Rattle.core_laws.proofs.OfArrival.Changing.{reseat}
use Rattle.core_laws.proofs.OfArrival.Finding.{false-true, none-some}
use Rattle.core_laws.proofs.OfArrival.Grounding.{regrounded}
use Rattle.core_laws.proofs.OfArrival.Idling.{lack-idles}
use Rattle.core_laws.proofs.OfArrival.Liking.{going-like}
use Rattle.core_laws.proofs.OfArrival.Messaging.{Nexts, Outcome, Stood, looking, says-so, unfresh}
use Rattle.client_session.specs.Setups.{users_at}
use Rattle.mx_base.specs.declared.names.Port.{Port}

-- What laws of seats say of a login.

abbrev pub Enters : Type 0
Enters = (x : Known) (client : tales.Client) (seat : Seat) (default : List ℕ) (user : Account) (response : Response) (first : ℕ) (switched : Bool)
    → IsWho client seat → (was : IsEntering x.plan client seat) → (next_of seat.client.stage seat.client).client.framer.fault ≡ None
    → opening x.plan.service.limit client.read ≡ Says switched response first (next_of seat.client.stage seat.client).client.framer.kept
    → was.written ++ (stepped seat).outbox.due ≡ said_to (next_of seat.client.stage seat.client).client x.plan.service.version switched
    → account_of (users_at x.plan.service client.port) client.salt response ≡ Some user
    → IsServed x.plan client (admitted default user response first (stepped seat)) user
    × IsWrittenOf client (admitted default user response first (stepped seat)) (due_so_far x client)

abbrev pub Goes : Type 0
Goes = (plan : Plan) (x : tales.Client) (s : Seat) → IsWho x s → (entering : IsEntering plan x s)
    → HasStepped (next_of s.client.stage s.client).step (next_of s.client.stage s.client).client plan.service.limit plan.service.version x.read
    (entering.written ++ (stepped s).outbox.due)

abbrev pub Waits_so : Type 0
Waits_so = (x : Known) (y : tales.Client) (s : Seat) (switched : Bool) → IsWho y s → (entering : IsEntering x.plan y s)
    → opening x.plan.service.limit y.read ≡ Waits switched
    → entering.written ++ (stepped s).outbox.due ≡ said_to (next_of s.client.stage s.client).client x.plan.service.version switched
    → IsWrittenOf y (stepped s) (due_so_far x y)

-- what its link is to say is no part of how far its login is
drained-login : (at : Stage) (client : ClientState) (version read bytes : List ℕ) → IsLoggingIn at client version read bytes
    → IsLoggingIn at (record client { outgoing = [] }) version read bytes
drained-login stage.Response client version read bytes is = is
drained-login (stage.Answer response) client version read bytes is = is
drained-login (stage.Login response first) client version read bytes is = is
drained-login (stage.Refused first fault) client version read bytes is = is
drained-login stage.Commands client version read bytes is = is

-- It has no messages.

none-split : (limit : ℕ) → split limit 0 [] ≡ record { messages = []; rest = []; fault = None }
none-split limit = split-nothing limit 0 [] (first_message-empty limit 0)

quiet-split : (plan : Plan) (client : tales.Client) (at : Opening) → opening_of (talk_of plan client) ≡ at → commands_in (talk_of plan client) at ≡ []
    → messages_of (talk_of plan client) ≡ record { messages = []; rest = []; fault = None }
quiet-split plan client at is none =
    ap (split plan.service.limit 0) (ap (commands_in (talk_of plan client)) is ∙ none) ∙ none-split plan.service.limit

pub quiet-lacks : (plan : Plan) (client : tales.Client) (at : Opening) → opening_of (talk_of plan client) ≡ at → commands_in (talk_of plan client) at ≡ []
    → slice_get (messages plan client) client.taken ≡ None
quiet-lacks plan client at is none = ap (λ (s : Split). slice_get s.messages client.taken) (quiet-split plan client at is none)

-- so the answer to its login is all that it is due
pub quiet-due : (g : Ground) (client : tales.Client) (at : Opening) → opening_of (talk_of g.plan client) ≡ at → commands_in (talk_of g.plan client) at ≡ []
    → client.taken ≡ 0 → word_at g.plan g.tale.moment client.number ≡ None
    → due_bytes (view_on g).replies g.plan g.tale.moment client ≡ front_in (talk_of g.plan client) at
quiet-due g client at is none untaken silent =
    ap (with_word (talk_of g.plan client) (due_until (view_on g).replies g.plan g.tale.moment client)) silent
    ∙ (λ i. front_in (talk_of g.plan client) (is i) ++ due_for (view_on g).replies g.plan g.tale.moment client (last i) 1 (take (untaken i) (split_so i).messages))
    ∙ append-nil (front_in (talk_of g.plan client) at) where
      split_so : messages_of (talk_of g.plan client) ≡ record { messages = []; rest = []; fault = None }
      split_so = quiet-split g.plan client at is none

      last : error_behind g.plan client ≡ []
      last = λ i. if nat_eq (untaken i) (length (split_so i).messages) then fault_answer g.plan.service.limit (split_so i).fault else []

module _ (g : Ground) (now : Tabled) (default : List ℕ) (client : tales.Client) (row : Client)
    (looked : unfresh g client.number client.number ≡ false) (enters : row.desk.seat.phase ≡ phase.LoggingIn) (own : IsClient g client row)
    (going : IsGoing g client row) (was : IsEntering g.plan client row.desk.seat) (let_in : IsLetIn g default client)
    (stood : Stood g now client row) where
  abbrev fresh : ClientNo → Bool
  fresh = unfresh g client.number

  abbrev seat : Seat
  seat = row.desk.seat

  abbrev after : Ground
  after = regrounded (looking g fresh) g

  abbrev found : steps.Next
  found = next_of seat.client.stage seat.client

  abbrev left : Seat
  left = stepped seat

  same : IsSame seat.client found.client
  same = next_same seat.client.stage seat.client

  answered : seat.answered ≡ true
  answered = going.answered ∙ ap (is_answered g.plan g.tale (view_on g) client) was.untaken

  idle-by : (work : Option Work) → is_some work ≡ false → work ≡ None
  idle-by None is = refl
  idle-by (Some work) is = false-true true is refl

  idle : row.desk.work ≡ None
  idle = idle-by row.desk.work (going.busy ∙ ap not answered)

  coming-by : (work : Option Work) → work ≡ None → IsWorkingOr g client row work → seat.outbox.coming ≡ []
  coming-by None none is = is
  coming-by (Some work) none is = none-some (Some work) work none refl

  none-came : seat.outbox.coming ≡ []
  none-came = coming-by row.desk.work idle going.working

  who-so : IsWho client left
  who-so = record { link = own.who.link; number = same.0 ∙ own.who.number; port = own.who.port; salt = same.1 ∙ own.who.salt; drained = refl }

  -- with another seat, in which the client doesn't wait for an answer

  desk-so : (new : Seat) → new.client.number ≡ client.number → IsPlaced new.phase (view_on g) client.number new.place
      → IsDesk g.setup.reads (view_on g) client.number (record row.desk { seat = new })
  desk-so new number placed = record {
    number = number;
    sessions = own.desk.sessions;
    place = placed;
    work = subst (λ (work : Option Work). IsWorkOr g.setup.reads (view_on g) client.number new.place work) (sym idle) tt;
    row = own.desk.row;
  }

  going-so : (new : Seat) → new.answered ≡ seat.answered → new.outbox.coming ≡ []
      → ((login : Account) → account_in new.phase ≡ Some login → g.setup.accounts client.number ≡ logged_in_as login)
      → ((login : Account) → account_in new.phase ≡ Some login → (g.setup.places client.number).settings ≡ collation_settings new.collation)
      → (new.phase ≡ phase.LoggingIn → (view_on g).places client.number ≡ g.setup.places client.number) → IsGoing after client (reseat new row)
  going-so new stays came account collation unmoved =
      going-like g (looking g fresh) client client (record { number = refl; taken = refl; own = λ ordinal below. refl }) row new going.going stays
      (came ∙ sym none-came) (λ busy. false-true (is_some row.desk.work) (ap is_some idle) busy) (λ busy message at. at) account collation unmoved going

  -- It waits for more.

  waits-so : (switched : Bool) → IsLoggingIn found.client.stage found.client g.plan.service.version client.read (was.written ++ left.outbox.due)
      → IsWrittenOf client left (due_so_far (known_on g) client) → IsClient after client (reseat left row)
  waits-so switched login owed = record {
    who = who-so;
    heard = subst (λ (at : Phase). IsHeardIn at g.plan client left) (sym enters)
        (record {
          limit = same.2 ∙ was.limit;
          untaken = was.untaken;
          arrived = same.3 ∙ was.arrived;
          written = was.written;
          size = was.size;
          login = drained-login found.client.stage found.client g.plan.service.version client.read (was.written ++ left.outbox.due) login;
        });
    owed = subst (λ (at : Phase). IsOwing at (fresh client.number) after client left) (sym enters)
        (subst (λ (flag : Bool). IsOwing phase.LoggingIn flag after client left) (sym looked)
        (record { written = owed.written; size = owed.size; all = owed.all }));
    desk = desk-so left who-so.number own.desk.place;
    coming = own.coming;
    phase = subst (λ (at : Phase). IsPhase (is_ended at) after client (reseat left row)) (sym enters)
        (going-so left refl refl going.account going.collation going.unmoved);
  }

  -- Its end.

  parts-so : (at : Opening) (packets : List ℕ) (switched : Bool) → opening_of (talk_of g.plan client) ≡ at → commands_in (talk_of g.plan client) at ≡ []
      → front_in (talk_of g.plan client) at ≡ greeted (talk_of g.plan client) switched ++ packets
      → was.written ++ left.outbox.due ≡ said_to found.client g.plan.service.version switched → is_denied_by (talk_of g.plan client) at ≡ true
      → Outcome g now client row (leaves packets left)
  parts-so at packets switched is none front said denied there = record {
    who = record { link = who-so.link; number = who-so.number; port = who-so.port; salt = who-so.salt; drained = refl };
    ended = refl;
    idle = idle;
    rested = lack-idles g.setup g.plan client g.tale (quiet-lacks g.plan client at is none);
    refused =
        ap (λ (b : Bool). b || is_garbled (talk_of g.plan client)) (ap (is_denied_by (talk_of g.plan client)) is ∙ denied);
    owed = λ silent. record {
      written = was.written;
      size = was.size;
      front = record {
        rest = [];
        is =
            append-nil (was.written ++ (left.outbox.due ++ packets)) ∙ sym (append_assoc was.written left.outbox.due packets)
            ∙ ap (λ (bytes : List ℕ). bytes ++ packets) (said ∙ greeted-so switched)
            ∙ sym front ∙ sym (quiet-due g client at is none was.untaken silent);
      };
    };
  } where
    greeted-so : (switched : Bool) → said_to found.client g.plan.service.version switched ≡ greeted (talk_of g.plan client) switched
    greeted-so switched = λ i. reading.said ((same.0 ∙ own.who.number) i).0 ((same.1 ∙ own.who.salt) i) g.plan.service.version switched

  -- It is let in.

  abbrev let-in : Account → Response → (first : ℕ) → Seat
  let-in user response first = admitted default user response first left

  account-so : (user : Account) (response : Response) (first : ℕ) (switched : Bool) (rest : List ℕ)
      → opening_of (talk_of g.plan client) ≡ Says switched response first rest → account_of (users_at g.plan.service client.port) client.salt response ≡ Some user
      → talks.account (talk_of g.plan client) ≡ Some user
  account-so user response first switched rest is known = ap (talks.account_in (talk_of g.plan client)) is ∙ known

  served-client : (user : Account) (response : Response) (first : ℕ) (switched : Bool) (rest : List ℕ)
      → opening_of (talk_of g.plan client) ≡ Says switched response first rest → account_of (users_at g.plan.service client.port) client.salt response ≡ Some user
      → IsServed g.plan client (let-in user response first) user → IsWrittenOf client (let-in user response first) (due_so_far (known_on g) client)
      → IsGoing after client (reseat (let-in user response first) row) → IsClient after client (reseat (let-in user response first) row)
  served-client user response first switched rest is known served owed on = record {
    who = record { link = who-so.link; number = who-so.number; port = who-so.port; salt = who-so.salt; drained = refl };
    heard = served;
    owed = record { written = owed.written; size = owed.size; all = owed.all };
    desk = desk-so (let-in user response first) who-so.number
        (going.unmoved enters ∙ let_in.place user switched response first rest (account-so user response first switched rest is known) is);
    coming = own.coming;
    phase = on;
  }

  in-so : (user : Account) (response : Response) (first : ℕ) (switched : Bool) (rest : List ℕ)
      → opening_of (talk_of g.plan client) ≡ Says switched response first rest → account_of (users_at g.plan.service client.port) client.salt response ≡ Some user
      → IsGoing after client (reseat (let-in user response first) row)
  in-so user response first switched rest is known =
      going-so (let-in user response first) refl refl
      (λ login same_login. let_in.account login (account-so user response first switched rest is known ∙ same_login))
      (λ login same_login. ap (λ (place : Place). place.settings)
      (let_in.place user switched response first rest (account-so user response first switched rest is known) is))
      (λ at. absurd (let both : phase.Serving user ≡ phase.LoggingIn = at in cc))

  -- All of them.

  module _ (lets : Enters) (waits : Waits_so) (nexts : Nexts) (few : client.taken + 1 < 18446744073709551616)
      (captured : waits_for_capture (view_on g) g.plan client ≡ false) (room : g.plan.room ≡ 1048576) where
    limit-so : found.client.framer.limit ≡ g.plan.service.limit
    limit-so = same.2 ∙ was.limit

    denied-so : (response : Response) (first : ℕ) (switched : Bool) (rest : List ℕ) → opening_of (talk_of g.plan client) ≡ Says switched response first rest
        → was.written ++ left.outbox.due ≡ said_to found.client g.plan.service.version switched
        → account_of (users_at g.plan.service client.port) client.salt response ≡ None
        → Outcome g now client row (leaves (spelling first (denial_of (users_at g.plan.service left.port) left.client.salt response)) left)
    denied-so response first switched rest is said unknown =
        parts-so (Says switched response first rest) (spelling first (denial_of (users_at g.plan.service left.port) left.client.salt response)) switched is
        (ap (λ (user : Option Account). if_known user rest) unknown)
        (λ i. greeted (talk_of g.plan client) switched
        ++ spelling first (login_answer (denial_of (users_at g.plan.service (sym own.who.port i)) (sym (same.1 ∙ own.who.salt) i) response) (unknown i)))
        said (ap is_none unknown)

    known-so : (user : Account) (response : Response) (first : ℕ) (switched : Bool) → found.client.framer.fault ≡ None
        → opening_of (talk_of g.plan client) ≡ Says switched response first found.client.framer.kept
        → was.written ++ left.outbox.due ≡ said_to found.client g.plan.service.version switched
        → account_of (users_at g.plan.service client.port) client.salt response ≡ Some user
        → Outcome g now client row (next_message g.plan.service.limit (let-in user response first))
    known-so user response first switched faultless is said known =
        let both = lets (known_on g) client seat default user response first switched own.who was faultless is said known in
        let on = in-so user response first switched found.client.framer.kept is known in
        says-so g now client row (let-in user response first) user refl
        (served-client user response first switched found.client.framer.kept is known both.0 both.1 on) on (λ done. idle) both.0 both.1 room stood
        nexts few captured (inr idle)

    by-account : (response : Response) (first : ℕ) (switched : Bool) → found.client.framer.fault ≡ None
        → opening_of (talk_of g.plan client) ≡ Says switched response first found.client.framer.kept
        → was.written ++ left.outbox.due ≡ said_to found.client g.plan.service.version switched
        → (user : Option Account) → account_of (users_at g.plan.service client.port) client.salt response ≡ user
        → Outcome g now client row (logs_in_as user g.plan.service default response first left)
    by-account response first switched faultless is said None known = denied-so response first switched found.client.framer.kept is said known
    by-account response first switched faultless is said (Some user) known = known-so user response first switched faultless is said known

    logged-so : (response : Response) (first : ℕ) → found.client.stage ≡ stage.Login response first
        → IsLoggingIn (stage.Login response first) found.client g.plan.service.version client.read (was.written ++ left.outbox.due)
        → Outcome g now client row (looks_in g.plan.service default (says.Login first) left)
    logged-so response first at login =
        let opened : opening g.plan.service.limit client.read ≡ Says login.0 response first found.client.framer.kept =
        (λ i. opening (sym limit-so i) (sym (append-nil client.read) i)) ∙ login.2.whatever []
        ∙ ap (λ (kept : List ℕ). Says login.0 response first kept) (append-nil found.client.framer.kept) in
        subst (λ (given : Option Response). Outcome g now client row (logs_in_if g.plan.service default given first left)) (sym (ap login_of at))
        (subst (λ (port : Port). Outcome g now client row (logs_in_as (account_of (users_at g.plan.service port) left.client.salt response) g.plan.service default response first left))
        (sym own.who.port)
        (subst (λ (salt : List ℕ). Outcome g now client row (logs_in_as (account_of (users_at g.plan.service client.port) salt response) g.plan.service default response first left))
        (sym (same.1 ∙ own.who.salt))
        (by-account response first login.0 login.1.faultless opened login.3 (account_of (users_at g.plan.service client.port) client.salt response) refl)))

    refused-so : (first : ℕ) (fault : ClientFault) (switched : Bool)
        → ((more : List ℕ) → opening g.plan.service.limit (client.read ++ more) ≡ Fails switched fault first)
        → was.written ++ left.outbox.due ≡ said_to found.client g.plan.service.version switched
        → Outcome g now client row (looks_in g.plan.service default (says.Refused first fault) left)
    refused-so first fault switched whatever said =
        parts-so (Fails switched fault first) (spelling first (fault_error (login_limit g.plan.service.limit) fault)) switched
        (ap (opening g.plan.service.limit) (sym (append-nil client.read)) ∙ whatever []) refl refl said refl

    by-step : (step : ClientStep) → HasStepped step found.client g.plan.service.limit g.plan.service.version client.read (was.written ++ left.outbox.due)
        → Outcome g now client row (looks_in g.plan.service default step left)
    by-step says.Nothing is = λ there. record {
      stands = stood left there (inr idle) (waits-so is.1 is.0 (waits (known_on g) client seat is.1 own.who was is.2 is.3));
      idle = lack-idles g.setup g.plan client g.tale (quiet-lacks g.plan client (Waits is.1) is.2 refl);
    }
    by-step (says.Login first) is =
        logged-so is.0 first is.1
        (subst (λ (at : Stage). IsLoggingIn at found.client g.plan.service.version client.read (was.written ++ left.outbox.due)) is.1 is.2)
    by-step (says.Message ordinal first) is = absurd is
    by-step (says.Refused first fault) is = refused-so first fault is.0 is.1 is.2

    pub enters-so : Goes → Outcome g now client row (login_found g.plan.service default (stepped_in found seat))
    enters-so goes = by-step found.step (goes g.plan client seat own.who was)
