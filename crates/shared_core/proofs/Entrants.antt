-- A client that isn't logged in has no message that is up, whoever has room.
use Rattle.std.specs.Prelude.{◌≡◌, ◌<◌, ◌≤◌, ◌&&◌, ℕ, Bool, false, not, true, length, slice_get, take, List, [], ◌++◌, Option, Some, None}
use Rattle.std.proofs.Common.{refl, sym, ap, ◌∙◌, subst, append-nil, arith, length-append}
use Rattle.std.proofs.lemmas.Bool.{true≢false}
use Rattle.std.proofs.lemmas.Option.{none-some}
use Rattle.handshake.specs.declared.response.Response.{Response}
use Rattle.packet_frame.specs.Packets.{Found, Framed, first_message, spelling}
use Rattle.packet_frame.specs.Packets.Found.{Nothing, Whole, Faulty}
use Rattle.packet_frame.specs.SpellingLaws.{spelling-some}
use Rattle.mx_wire.specs.Log.{Log}
use Rattle.client_side.specs.Login.{Fails, Opening, Says, Waits, by_answer, greeting_said, login_limit, opening, switch_said}
use Rattle.client_side.specs.Reading.{IsLoggingIn, said, said_to}
use Rattle.client_side.specs.declared.step.ClientFault.TheVariants.{Hand}
use Rattle.client_side.specs.declared.stage.Stage.{Stage}
use Rattle.client_side.specs.declared.stage.Stage.TheVariants as stage
use Rattle.client_session.specs.Answers.{Talk, answer_to_login, front, front_in, greeted, opening_of}
use Rattle.client_session.specs.Setups.{Setup as Serves}
use Rattle.core_service.specs.declared.service.Service.{Service}
use Rattle.client_seat.specs.Seats.{account_in, is_ended}
use Rattle.client_seat.specs.Stands.{IsEntering, IsHeardIn, IsWho, IsWrittenOf, due_so_far}
use Rattle.client_seat.specs.declared.phase.Phase.{Phase}
use Rattle.client_seat.specs.declared.phase.Phase.TheVariants as phase
use Rattle.client_seat.specs.declared.seat.Seat.{Seat}
use Rattle.private_model.specs.Names.{ClientNo}
use Rattle.private_model.specs.Story.{is_client}
use Rattle.log_story.specs.Clients.{next_taken}
use Rattle.log_story.specs.Owed.{due_for, messages, talk_of}
use Rattle.log_story.specs.Tale as tales
use Rattle.step_laws.specs.Taken.{IsIdle}
use Rattle.core_tables.specs.Tables.{Tabled}
use Rattle.core_tables.specs.declared.client.Client.{Client}
use Rattle.core_stands.specs.Clients.{IsClient, IsClientOr, IsOwing}
use Rattle.core_stands.specs.Grounds.{Ground, known_on}
use Rattle.core_stands.specs.Stands.{IsAt, IsCalm, Rests}
use Rattle.core_laws.proofs.OfArrival.Entering.{quiet-lacks}
use Rattle.core_laws.proofs.OfArrival.Finding.{client-true}
use Rattle.core_promises.specs.Administers.{Administered}
use Rattle.router_laws.specs.decisions.Routers.{IsRouter}
use Rattle.core_texts.specs.declared.texts.Texts.{Texts}

-- What is said to one that logs in, without an answer.

switch_more : (number : ℕ) (salt version : List ℕ) (switched : Bool)
    → length (said number salt version false) ≤ length (said number salt version switched)
switch_more number salt version false = omega arith
switch_more number salt version true =
    omega (arith, length-append (greeting_said number salt version) [], length-append (greeting_said number salt version) (switch_said salt))

-- an answer behind a switch says so
says_switched : (response : Response) (found : Found) (switched : Bool) (other : Response) (id : ℕ) (rest : List ℕ)
    → by_answer response found ≡ Says switched other id rest → switched ≡ true
says_switched response Nothing switched other id rest is = cc
says_switched response (Whole message behind) switched other id rest is = cc
says_switched response (Faulty fault) switched other id rest is = cc

module _ (g : Ground) (client : tales.Client) (seat : Seat) (who : IsWho client seat) (entering : IsEntering g.plan client seat)
    (owed : IsWrittenOf client seat (due_so_far (known_on g) client)) where
  abbrev talk : Talk
  talk = talk_of g.plan client

  abbrev bytes : List ℕ
  bytes = entering.written ++ seat.outbox.due

  abbrev answers : List ℕ
  answers = due_for (known_on g).view.replies g.plan g.tale.moment client [] 1 (take client.taken (messages g.plan client))

  said_so : (switched : Bool) → said_to seat.client g.plan.service.version switched ≡ greeted talk switched
  said_so switched = λ i. said (who.number i).0 (who.salt i) g.plan.service.version switched

  front_short : length (front talk) ≤ length bytes
  front_short =
      let all : length (front talk ++ answers) ≡ length (owed.written ++ seat.outbox.due) = ap (λ (xs : List ℕ). length xs) owed.all in
      let one : length owed.written ≡ client.written = owed.size in
      let other : length entering.written ≡ client.written = entering.size in
      omega (arith, length-append (front talk) answers, length-append owed.written seat.outbox.due, length-append entering.written seat.outbox.due)

  no_answer : (switched : Bool) (response : Response) (id : ℕ) (rest : List ℕ) → opening_of talk ≡ Says switched response id rest
      → length bytes ≤ length (greeted talk switched) → ⊥
  no_answer switched response id rest at few =
      let size : length (front talk) ≡ length (greeted talk switched ++ spelling id (answer_to_login talk response)) =
      ap (λ (o : Opening). length (front_in talk o)) at in
      let more : 0 < length (spelling id (answer_to_login talk response)) = spelling-some id (answer_to_login talk response) in
      let short : length (front talk) ≤ length bytes = front_short in
      omega (arith, length-append (greeted talk switched) (spelling id (answer_to_login talk response)))

  opened : opening seat.client.framer.limit (client.read ++ []) ≡ opening_of talk
  opened = λ i. opening (entering.limit i) (append-nil client.read i)

  unanswered : (at : Stage) → IsLoggingIn at seat.client g.plan.service.version client.read bytes → (switched : Bool) (response : Response) (id : ℕ)
      (rest : List ℕ) → opening_of talk ≡ Says switched response id rest → ⊥
  unanswered stage.Response login switched response id rest at =
      no_answer switched response id rest at
      (let size : length bytes ≡ length (greeted talk false) = ap (λ (xs : List ℕ). length xs) (login.2 ∙ said_so false) in
      let less : length (greeted talk false) ≤ length (greeted talk switched) = switch_more talk.number talk.salt talk.setup.version switched in omega arith)
  unanswered (stage.Answer answered) login switched response id rest at =
      no_answer switched response id rest at
      (let is_true : switched ≡ true =
      says_switched answered (first_message (login_limit seat.client.framer.limit) 3 (seat.client.framer.kept ++ [])) switched response id rest
      (sym (login.1 []) ∙ opened ∙ at) in
      let size : length bytes ≡ length (greeted talk switched) =
      ap (λ (xs : List ℕ). length xs) (login.2 ∙ said_so true) ∙ ap (λ (b : Bool). length (greeted talk b)) (sym is_true) in omega arith)
  unanswered (stage.Login answered first) login switched response id rest at =
      no_answer switched response id rest at
      (let both : Says login.0 answered first (seat.client.framer.kept ++ []) ≡ Says switched response id rest =
      sym (login.2.whatever []) ∙ opened ∙ at in
      let same : login.0 ≡ switched = cc in
      let size : length bytes ≡ length (greeted talk switched) =
      ap (λ (xs : List ℕ). length xs) (login.3 ∙ said_so login.0) ∙ ap (λ (b : Bool). length (greeted talk b)) same in omega arith)
  unanswered (stage.Refused first fault) login switched response id rest at =
      let both : Fails login.0 (Hand fault) first ≡ Says switched response id rest = sym (login.1 []) ∙ opened ∙ at in cc
  unanswered stage.Commands login switched response id rest at = login

  lacks : slice_get (messages g.plan client) client.taken ≡ None
  lacks = by (opening_of talk) refl where
    by : (o : Opening) → opening_of talk ≡ o → slice_get (messages g.plan client) client.taken ≡ None
    by (Waits switched) at = quiet-lacks g.plan client (Waits switched) at refl
    by (Fails switched fault id) at = quiet-lacks g.plan client (Fails switched fault id) at refl
    by (Says switched response id rest) at = absurd (unanswered seat.client.stage entering.login switched response id rest at)

  pub entrant_idle : IsIdle g.setup g.plan g.tale client
  entrant_idle = ap (λ (found : Option Framed). next_taken g.setup g.plan client found g.tale) lacks

-- it goes on, and has no account
pub logging_in : (at : Phase) → is_ended at ≡ false → account_in at ≡ None → at ≡ phase.LoggingIn
logging_in phase.LoggingIn going none = refl
logging_in (phase.Serving account) going none = absurd (none-some account (sym none))
logging_in phase.Ended going none = absurd (true≢false going)

row_idle : (g : Ground) (client : tales.Client) (row : Client) → IsClient g client row → row.desk.seat.phase ≡ phase.LoggingIn
    → g.fresh client.number ≡ false → IsIdle g.setup g.plan g.tale client
row_idle g client row own at looked =
    entrant_idle g client row.desk.seat own.who (subst (λ (p : Phase). IsHeardIn p g.plan client row.desk.seat) at own.heard)
    (subst (λ (b : Bool). IsOwing phase.LoggingIn b g client row.desk.seat) looked
    (subst (λ (p : Phase). IsOwing p (g.fresh client.number) g client row.desk.seat) at own.owed))

-- all who have room, but for this one
abbrev pub lacking : ClientNo → (roomy : ClientNo → Bool) → ClientNo → Bool
lacking c roomy other = not (is_client other c) && roomy other

pub lacks_itself : (c : ClientNo) (roomy : ClientNo → Bool) → is_client c c ≡ true → lacking c roomy c ≡ false
lacks_itself c roomy same = ap (λ (b : Bool). not b && roomy c) same

pub others_lack : (c : ClientNo) (roomy : ClientNo → Bool) (other : ClientNo) → roomy other ≡ false → lacking c roomy other ≡ false
others_lack c roomy other full = by (not (is_client other c)) where
  by : (b : Bool) → (b && roomy other) ≡ false
  by true = full
  by false = refl

calm_still : (g : Ground) (t : Tabled) (roomy : ClientNo → Bool) (c : ClientNo) (row : Client) → t.clients c ≡ Some row
    → row.desk.seat.phase ≡ phase.LoggingIn → ((other : ClientNo) → g.fresh other ≡ false) → (client : tales.Client) → IsAt g t client
    → IsCalm g roomy client → IsCalm g (lacking c roomy) client
calm_still g t roomy c row there at looked client is calm going full = by (is_client client.number c) refl full where
  by : (b : Bool) → is_client client.number c ≡ b → (not b && roomy client.number) ≡ false → IsIdle g.setup g.plan g.tale client
  by false other without = calm going without
  by true same without =
      row_idle g client row
      (subst (IsClientOr g client) (ap t.clients (client-true client.number c same) ∙ there) is.row) at (looked client.number)

rests_still : (service : Serves) (g : Ground) (t : Tabled) (roomy : ClientNo → Bool) (c : ClientNo) (row : Client) → t.clients c ≡ Some row
    → row.desk.seat.phase ≡ phase.LoggingIn → Rests service g t roomy → Rests service g t (lacking c roomy)
rests_still service g t roomy c row there at rests = record {
  stands = rests.stands;
  over = rests.over;
  looked = rests.looked;
  rested = rests.rested;
  calm = λ k d within. calm_still g t roomy c row there at rests.looked _ (rests.stands.clients.each k d within) (rests.calm k d within);
}

pub router_still : (service : Service) (texts : Texts) (admin : Administered) (log : Log) (t : Tabled) (roomy : ClientNo → Bool) (c : ClientNo) (row : Client)
    → t.clients c ≡ Some row → row.desk.seat.phase ≡ phase.LoggingIn → IsRouter service texts admin log t roomy
    → IsRouter service texts admin log t (lacking c roomy)
router_still service texts admin log t roomy c row there at router = record {
  core = record {
    decided = router.core.decided;
    rests = λ setup codes plan of fits. rests_still service.setup _ t roomy c row there at (router.core.rests setup codes plan of fits);
    safe = router.core.safe;
    written = router.core.written;
    opened = router.core.opened;
  };
  counts = router.counts;
  recorded = router.recorded;
  counted = router.counted;
  lawful = router.lawful;
  open_just = router.open_just;
  rules = router.rules;
  first = router.first;
  began = router.began;
  administers = router.administers;
  spoken = router.spoken;
  waited = router.waited;
  judged = router.judged;
  held = router.held;
  noted = router.noted;
  caused = router.caused;
  ended = router.ended;
  known = router.known;
}
