-- How a seat stands for its client in a tale: by the plan, what the router knows, and the moment.
use Rattle.std.specs.Prelude.{◌≡◌, ◌<◌, ℕ, suc, ◌+◌, true, is_some, nat_eq, slice_get, slice_index_or, List, [], ◌∷◌, ◌++◌, length, take, Option, Some, None, ◌≤◌, Bool, drop, false, not}
use Rattle.std.specs.List.{list_any}
use Rattle.packet_frame.specs.Packets.{Framed, next_id, spellings, split, with_front}
use Rattle.reply_track.specs.Grammar.{renamed}
use Rattle.server_side.specs.Account.{Account}
use Rattle.client_side.specs.Reading.{IsLoggingIn}
use Rattle.client_side.specs.declared.stage.Stage.TheVariants as stage
use Rattle.client_session.specs.Answers as talks
use Rattle.client_session.specs.Answers.{commands, front}
use Rattle.private_model.specs.Commands.{Reply, end_of, is_made}
use Rattle.private_model.specs.View.{View}
use Rattle.log_story.specs.Executes.{bound_by, prepared_by}
use Rattle.log_story.specs.Owed.{due_bytes, due_for, kind_of, messages, name_of, number_of, talk_of}
use Rattle.log_story.specs.Plan.{Plan, Route, com_prepare, own_at}
use Rattle.log_story.specs.Tale.{Client}
use Rattle.client_seat.specs.Numbers.{Numbered, drops}
use Rattle.client_seat.specs.Seats.{Seat}
use Rattle.client_seat.specs.declared.phase.Phase.{Phase}
use Rattle.client_seat.specs.declared.phase.Phase.TheVariants as phase

pub record Known : Type 0 where
  pub plan : Plan
  pub view : View
  pub moment : ℕ

-- The bytes that answer a message: the router's own, or else those of the reply; None where it isn't answered.

abbrev pub answer_by : (own : Option (List (List ℕ))) → Option Reply → (number id : ℕ) → Option (List ℕ)
answer_by (Some payloads) reply number id = Some (spellings id payloads)
answer_by None (Some reply) number id = Some (spellings id (renamed (kind_of reply) number reply.payloads))
answer_by None None number id = None

abbrev pub answer_to : Known → Client → (ordinal : ℕ) → Framed → Option (List ℕ)
answer_to x client ordinal message =
    answer_by (own_at x.plan x.moment (name_of client ordinal)) (x.view.replies (name_of client ordinal))
    (number_of x.plan (name_of client ordinal)) (next_id message.last)

-- Who it is.
pub record IsWho (client : Client) (seat : Seat) : Type 0 where
  pub link : seat.link ≡ client.link
  pub number : seat.client.number ≡ client.number
  pub port : seat.port ≡ client.port
  pub salt : seat.client.salt ≡ client.salt
  pub drained : seat.client.outgoing ≡ []

-- What was read of it.

-- the messages that were taken up are gone, and what is kept has the others
pub record IsServed (plan : Plan) (client : Client) (seat : Seat) (account : Account) : Type 0 where
  pub limit : seat.client.framer.limit ≡ plan.service.limit
  pub known : talks.account (talk_of plan client) ≡ Some account
  pub logged_in : seat.client.stage ≡ stage.Commands
  pub faultless : seat.client.framer.fault ≡ None
  pub arrived : seat.client.arrived ≡ client.taken
  pub gone : List Framed
  pub size : length gone ≡ client.taken
  pub rest : split plan.service.limit 0 (commands (talk_of plan client)) ≡ with_front gone (split plan.service.limit 0 seat.client.framer.kept)

-- a login that isn't through, and what was said in it
pub record IsEntering (plan : Plan) (client : Client) (seat : Seat) : Type 0 where
  pub limit : seat.client.framer.limit ≡ plan.service.limit
  pub untaken : client.taken ≡ 0
  pub arrived : seat.client.arrived ≡ 0
  pub written : List ℕ
  pub size : length written ≡ client.written
  pub login : IsLoggingIn seat.client.stage seat.client plan.service.version client.read (written ++ seat.outbox.due)

abbrev pub IsHeardIn : Phase → Plan → Client → Seat → Type 0
IsHeardIn phase.LoggingIn plan client seat = IsEntering plan client seat
IsHeardIn (phase.Serving account) plan client seat = IsServed plan client seat account
IsHeardIn phase.Ended plan client seat = Unit {0}

abbrev pub IsHeard : Plan → Client → Seat → Type 0
IsHeard plan client seat = IsHeardIn seat.phase plan client seat

-- What is due to it: what is written and what is to be written are together what it is due.

abbrev pub due_so_far : Known → Client → List ℕ
due_so_far x client =
    front (talk_of x.plan client) ++ due_for x.view.replies x.plan x.moment client [] 1 (take client.taken (messages x.plan client))

pub record IsWrittenOf (client : Client) (seat : Seat) (due : List ℕ) : Type 0 where
  pub written : List ℕ
  pub size : length written ≡ client.written
  pub all : due ≡ written ++ seat.outbox.due

abbrev pub IsOwedIn : Phase → Known → Client → Seat → Type 0
IsOwedIn phase.Ended x client seat = IsWrittenOf client seat (due_bytes x.view.replies x.plan x.moment client)
IsOwedIn _ x client seat = IsWrittenOf client seat (due_so_far x client)

abbrev pub IsOwed : Known → Client → Seat → Type 0
IsOwed x client seat = IsOwedIn seat.phase x client seat

-- messages of these ordinals, from the i-th on, are answered
abbrev pub AreAnswered : Known → Client → (i : ℕ) → List Framed → Type 0
AreAnswered x client i [] = Unit {0}
AreAnswered x client i (message ∷ others) = (is_some (answer_to x client i message) ≡ true) × AreAnswered x client (suc i) others

-- a message is the next that is taken up
pub record IsNext (plan : Plan) (client : Client) (message : Framed) : Type 0 where
  pub next : slice_get (messages plan client) client.taken ≡ Some message
  pub before : take (suc client.taken) (messages plan client) ≡ take client.taken (messages plan client) ++ message ∷ []

-- Of the last message that was taken up an answer is there now; for the others nothing is new.
pub record Answers (x y : Known) (client : Client) (before : List Framed) (message : Framed) (bytes : List ℕ) : Type 0 where
  pub plan : y.plan ≡ x.plan
  pub taken : take client.taken (messages x.plan client) ≡ before ++ message ∷ []
  pub was_none : answer_to x client (1 + length before) message ≡ None
  pub there : answer_to y client (1 + length before) message ≡ Some bytes
  pub answered : AreAnswered x client 1 before
  pub same : (ordinal : ℕ) (other : Framed) → ordinal < 1 + length before → answer_to y client ordinal other ≡ answer_to x client ordinal other

-- What it has prepared, by its numbers: an execute that comes next runs what was prepared, and binds what was bound since.

abbrev pub is_refused : Known → Client → (ordinal : ℕ) → Bool
is_refused x client ordinal = not (is_some (x.plan.routes (name_of client ordinal)))

-- under the number of the router's own stands this key of the story's; its preparation went there, and with that word on sharing the link; and
-- the client knows the number still
pub record IsNumbered (x : Known) (client : Client) (named : ℕ → ℕ) (number : ℕ) (one : Numbered) : Type 0 where
  pub ordinal : ℕ
  pub prepared : prepared_by x.view x.plan client number 1 (messages x.plan client)
      ≡ Some (record { key = named one.prepared.key; params = one.prepared.params; ordinal = ordinal })
  pub taken_up : ordinal ≤ client.taken
  pub bound : bound_by one.prepared.params number (is_refused x client) (suc ordinal) (drop ordinal (take client.taken (messages x.plan client)))
      (record { types = None; long = [] })
      ≡ one.bound
  pub route : Route
  pub went : x.plan.routes (name_of client ordinal) ≡ Some route
  pub hostgroup : route.hostgroup ≡ one.prepared.hostgroup
  pub multiplex : route.multiplex ≡ one.prepared.multiplex
  pub live : list_any (λ (sent : Framed). drops number sent.payload) (drop ordinal (take client.taken (messages x.plan client))) ≡ false

-- More is known, or was read of it: what was answered before its last message stays as it is, and the reply to that message stays.
pub record IsOnward (x y : Known) (client other : Client) : Type 0 where
  pub plan : y.plan ≡ x.plan
  pub number : other.number ≡ client.number
  pub taken : other.taken ≡ client.taken
  pub more : List Framed
  pub all : messages y.plan other ≡ messages x.plan client ++ more
  pub earlier : (ordinal : ℕ) → ordinal < client.taken → y.view.replies (name_of client ordinal) ≡ x.view.replies (name_of client ordinal)
  pub stays : (ordinal : ℕ) (reply : Reply) → ordinal ≤ client.taken → x.view.replies (name_of client ordinal) ≡ Some reply
      → y.view.replies (name_of client ordinal) ≡ Some reply

-- Its last message prepared a text under a number by which none was prepared before; nothing was bound since.
pub record Makes (x : Known) (client : Client) (named : ℕ → ℕ) (number : ℕ) (one : Numbered) : Type 0 where
  pub before : List Framed
  pub message : Framed
  pub behind : List Framed
  pub all : messages x.plan client ≡ before ++ (message ∷ behind)
  pub place : 1 + length before ≡ client.taken
  pub within : client.taken ≤ length (messages x.plan client)
  pub first : prepared_by x.view x.plan client number 1 before ≡ None
  pub route : Route
  pub routed : x.plan.routes (name_of client client.taken) ≡ Some route
  pub reply : Reply
  pub replied : x.view.replies (name_of client client.taken) ≡ Some reply
  pub prepares : nat_eq (slice_index_or message.payload 0 0) com_prepare ≡ true
  pub under : nat_eq route.number number ≡ true
  pub made : is_made reply ≡ true
  pub key : route.key ≡ named one.prepared.key
  pub params : (end_of reply).params ≡ one.prepared.params
  pub hostgroup : route.hostgroup ≡ one.prepared.hostgroup
  pub multiplex : route.multiplex ≡ one.prepared.multiplex
  pub unbound : one.bound ≡ record { types = None; long = [] }
