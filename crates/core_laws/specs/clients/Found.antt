-- Which messages a client's turns took up, who it was, and how it stood.
use Rattle.std.specs.Option.{option_map_or}
use Rattle.std.specs.Prelude.{◌≡◌, ◌<◌, ◌≤◌, ℕ, suc, true, is_some, slice_get, take, List, [], ◌∷◌, Option, Some, None}
use Rattle.mx_base.specs.declared.names.ClientNo.{ClientNo}
use Rattle.packet_frame.specs.Packets.{Framed}
use Rattle.server_side.specs.Account.{Account}
use Rattle.private_model.specs.Names.{Hostgroup, MessageName}
use Rattle.private_model.specs.View.{Setup, present}
use Rattle.log_story.specs.Executes.{Prepared, prepared_by}
use Rattle.log_story.specs.Owed.{messages, name_of}
use Rattle.log_story.specs.Plan.{Plan, own_at}
use Rattle.log_story.specs.Tale.{Tale, view_of}
use Rattle.client_session.specs.Answers.{Talk, messages_of}
use Rattle.client_session.specs.Setups.{Setup as Service}
use Rattle.client_seat.specs.Numbers.{Numbered, number_in}
use Rattle.client_seat.specs.Seats.{account_in}
use Rattle.client_seat.specs.Stands.{IsNumbered, Known}
use Rattle.client_seat.specs.declared.phase.Phase.{Phase}
use Rattle.client_desk.specs.Desks.{session_of}
use Rattle.client_desk.specs.declared.desk.Desk.{Desk}
use Rattle.desk_laws.specs.Stands.{held_of, message_at}
use Rattle.core_tables.specs.Arrivals.{seated, turn}
use Rattle.core_tables.specs.Tables.{Tabled}
use Rattle.core_tables.specs.declared.client.Client.{Client}
use Rattle.core_laws.specs.clients.Refusals.{is_refused_talk}
use Rattle.core_laws.specs.clients.Turns.{Answers, Choice, Ends, Goes, Halt, HaltsSo, IsTurn, Quits, Turns}
use Rattle.router_promises.specs.Statements.{known_statement}
use Rattle.router_promises.specs.Takings.{Taking, message_in}

-- one of these takings is of the message of this name
pub record IsAmong (takings : List Taking) (name : MessageName) (taking : Taking) : Type 0 where
  pub place : ℕ
  pub there : slice_get takings place ≡ Some taking
  pub named : message_in taking ≡ name

-- The user as whom a client is served; and its desk behind the look at which its message came up.

abbrev pub user_in : Phase → List ℕ
user_in phase = option_map_or (λ (account : Account). account.user) (account_in phase) []

abbrev pub desk_up : (service : Service) → (default : List ℕ) → (row : Client) → Desk
desk_up service default row = (seated (turn service default) row).desk

-- what is known just before a message is taken up
abbrev pub known_at : Setup → Plan → Tale → Known
known_at setup plan tale = record { plan = plan; view = view_of setup tale; moment = tale.moment }

-- The message is that which came up at the turn, and its client is served as this user. By what is known just before it is taken up the client
-- stands there, these are its sessions, and it has prepared what stands under its numbers, which is all that it knows, and nothing under a greater one;
-- and what the router answered itself no server answered.
pub record IsFoundIn (c : ClientNo) (desk : Desk) (up : Framed) (setup : Setup) (plan : Plan) (taking : Taking) (message : Option Framed) : Type 0 where
  pub message_is : message ≡ Some up
  pub port : taking.client.port ≡ desk.seat.port
  pub login : user_in desk.seat.phase ≡ (setup.accounts c).user
  pub place : (view_of setup taking.tale).places c ≡ desk.seat.place
  pub held : (hostgroup : Hostgroup)
      → (view_of setup taking.tale).held (present (view_of setup taking.tale) c hostgroup) ≡ held_of (session_of desk hostgroup)
  pub prepared : (number : ℕ) (one : Numbered) → number_in desk.seat.statements number ≡ Some one
      → IsNumbered (known_at setup plan taking.tale) taking.client (λ (key : ℕ). key) number one
  pub unused : (number : ℕ) → desk.seat.statements.last < number
      → prepared_by (view_of setup taking.tale) plan taking.client number 1 (take taking.client.taken (messages plan taking.client)) ≡ None
  pub known : (number : ℕ) (made : Prepared) → 0 < number
      → known_statement (view_of setup taking.tale) plan taking.client number (suc taking.client.taken) ≡ Some made
      → is_some (number_in desk.seat.statements number) ≡ true
  pub unserved : (ordinal : ℕ) → 0 < ordinal → ordinal ≤ taking.client.taken
      → is_some (own_at plan taking.tale.moment (name_of taking.client ordinal)) ≡ true
      → (view_of setup taking.tale).replies (name_of taking.client ordinal) ≡ None

abbrev pub IsFoundAt : (choice : Choice) → (service : Service) → (default : List ℕ) → (c : ClientNo) → (old new : Tabled)
    → IsTurn choice service default c old new → Setup → Plan → Taking → Option Framed → Type 0
IsFoundAt (Goes route keyed) service default c old new turn setup plan taking message =
    IsFoundIn c (desk_up service default turn.up.row) turn.up.message setup plan taking message
IsFoundAt (Answers payloads) service default c old new turn setup plan taking message =
    IsFoundIn c (desk_up service default turn.up.row) turn.up.message setup plan taking message

-- by the taking of its name, which is one of these
pub record IsFound (choice : Choice) (service : Service) (default : List ℕ) (c : ClientNo) (old new : Tabled)
    (turn : IsTurn choice service default c old new) (setup : Setup) (plan : Plan) (takings : List Taking) (message : Option Framed) (k : ℕ) : Type 0 where
  pub taking : Taking
  pub among : IsAmong takings (message_at c (suc k)) taking
  pub at : IsFoundAt choice service default c old new turn setup plan taking message

-- a QUIT is taken up too
abbrev pub IsLastAmong : Halt → (takings : List Taking) → MessageName → Type 0
IsLastAmong Quits takings name = (taking : Taking) × IsAmong takings name taking
IsLastAmong _ takings name = Unit {0}

-- How its turns end is what it said: that it quits is its next message, or it is refused.
abbrev pub IsEndFound : (halt : Halt) → (service : Service) → (default : List ℕ) → (c : ClientNo) → (old new : Tabled) → HaltsSo halt service default c old new
    → Talk → (k : ℕ) → Type 0
IsEndFound Quits service default c old new there talk k = slice_get (messages_of talk).messages k ≡ Some there.up.message
IsEndFound Ends service default c old new there talk k = is_refused_talk talk ≡ true
IsEndFound _ service default c old new there talk k = Unit {0}

-- of the messages of this talk from the k-th on
abbrev pub AreFoundAt : (choices : List Choice) → (halt : Halt) → (service : Service) → (default : List ℕ) → (c : ClientNo) → (old new : Tabled)
    → Turns choices halt service default c old new → Setup → Plan → (takings : List Taking) → Talk → (k : ℕ) → Type 0
AreFoundAt [] halt service default c old new turns setup plan takings talk k =
    IsLastAmong halt takings (message_at c (suc k)) × IsEndFound halt service default c old new turns talk k
AreFoundAt (choice ∷ others) halt service default c old new turns setup plan takings talk k =
    IsFound choice service default c old turns.0 turns.1 setup plan takings (slice_get (messages_of talk).messages k) k
    × AreFoundAt others halt service default c turns.0 new turns.2 setup plan takings talk (suc k)
