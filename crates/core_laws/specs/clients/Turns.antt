-- What the core makes of the tables as it takes up a client's messages, one by one: of the code alone.
use Rattle.std.specs.Prelude.{◌≡◌, ◌<◌, ◌+◌, ◌^◌, ℕ, suc, Bool, true, false, not, ◌&&◌, All, is_some, if◌then◌else◌, length, List, [], ◌∷◌, Option, None, Some}
use Rattle.std.specs.Option.{option_map, option_map_or}
use Rattle.mx_base.specs.declared.names.ClientNo.{ClientNo}
use Rattle.mx_base.specs.declared.names.Hostgroup.{Hostgroup}
use Rattle.packet_frame.specs.Packets.{Framed, spellings}
use Rattle.client_session.specs.Setups.{Setup as Service}
use Rattle.server_rule.specs.Classes.{Reads}
use Rattle.run_laws.specs.Reads.{HasArgs}
use Rattle.run_laws.specs.Wholes.{AreParts}
use Rattle.session_state.specs.Pins.{is_pinned}
use Rattle.private_model.specs.Commands.{Command}
use Rattle.private_model.specs.Story.{Due, Key}
use Rattle.private_model.specs.View.{Setup}
use Rattle.log_story.specs.Executes as executes
use Rattle.log_story.specs.Plan.{Route}
use Rattle.client_seat.specs.Numbers.{AreNoted, Numbered, number_in}
use Rattle.client_seat.specs.Requests.{asked_in, request_of}
use Rattle.client_seat.specs.Turns.{turned}
use Rattle.client_seat.specs.declared.next.Next.{Next}
use Rattle.client_seat.specs.declared.seat.Seat.{Seat}
use Rattle.client_seat.specs.declared.next.Next.TheVariants as next
use Rattle.client_desk.specs.Desks.{session_of}
use Rattle.client_desk.specs.declared.work.Work.{Work}
use Rattle.stmt_map.specs.declared.client.ClientStatements.{ClientStatements}
use Rattle.desk_laws.specs.Stands.{IsRequest}
use Rattle.row_laws.specs.Readied.{AreClasses}
use Rattle.core_stands.specs.Stands.{IsKeyedFor}
use Rattle.core_laws.specs.taking.Takes.{IsNumberedAs, is_reset}
use Rattle.core_tables.specs.Arrivals.{looked, turn}
use Rattle.core_tables.specs.Parting.{left_in}
use Rattle.core_tables.specs.Tables.{IsSame, Tabled, client_changed}
use Rattle.core_tables.specs.Taking.{answers, begins_anew, goes, quits}
use Rattle.core_tables.specs.declared.client.Client.{Client}

-- A text, at the place of its preparation, goes by this number.
pub record Keyed : Type 0 where
  pub number : ℕ
  pub key : Key

-- a story has them
abbrev pub AreKeyed : List Keyed → (keys : (number : ℕ) → Key) → Type 0
AreKeyed keyed keys = All (λ (one : Keyed). keys one.number ≡ one.key) keyed

-- What is decided of a message: it goes to a server, by what is prepared so, or the router answers it by these payloads.
pub data Choice : Type 0 where
  Goes : Route → List Keyed → Choice
  Answers : (payloads : List (List ℕ)) → Choice

-- How it ends: the client waits for a capture; nothing is up; it quits; or its login or its bytes are refused.
pub data Halt : Type 0 where
  Waits : Halt
  Rests : Halt
  Quits : Halt
  Ends : Halt

-- a capture is due first, in the session to which its message before went
abbrev pub waits_at : Client → Bool
waits_at row =
    option_map_or (λ (h : Hostgroup). not (is_pinned (session_of row.desk h).pin) && not (is_some (session_of row.desk h).id)) row.went false

-- there are lives for it to leave its sessions
abbrev pub MayLeave : Client → Type 0
MayLeave row = (h : Hostgroup) → suc (session_of row.desk h).life < 2 ^ 64

-- A client that waits for no capture is looked at, and says this next.
pub record IsLookedAt (service : Service) (default : List ℕ) (c : ClientNo) (old : Tabled) (row : Client) (said : Next) : Type 0 where
  pub there : old.clients c ≡ Some row
  pub few : row.desk.seat.client.arrived + 1 < 18446744073709551616
  pub captured : waits_at row ≡ false
  pub says : (turned service default row.desk.seat).next ≡ said

-- a message of it comes up
pub record ComesUp (service : Service) (default : List ℕ) (c : ClientNo) (old between : Tabled) : Type 0 where
  pub row : Client
  pub ordinal : ℕ
  pub looks : IsLookedAt service default c old row (next.Message ordinal)
  pub same : IsSame between (looked service default c old)
  pub message : Framed
  pub found : (turn service default row.desk.seat).client.framer.found ≡ Some message

-- what a message of a client that is seated so asks for in a story
abbrev pub asked_by : Setup → Route → Seat → (payload : List ℕ) → Option executes.Request
asked_by setup route seat payload =
    option_map (request_of setup seat.place.schema route.key (λ (key : ℕ). key)) (asked_in seat.statements payload route.text)

-- What was bound to what a client prepared: long data of its parameters alone, and types only where it has any.

pub record IsBoundSo (params : ℕ) (bound : executes.Bound) : Type 0 where
  pub parts : AreParts params [] bound.long
  pub untyped : params ≡ 0 → bound.types ≡ None

abbrev pub AreBoundSo : ClientStatements → Type 0
AreBoundSo statements = (number : ℕ) (one : Numbered) → number_in statements number ≡ Some one → IsBoundSo one.prepared.params one.bound

-- It goes to a server by this route, and by what is prepared so: a statement of it is due.
pub record GoesBy (service : Service) (default : List ℕ) (route : Route) (keyed : List Keyed) (c : ClientNo) (old new : Tabled) : Type 0 where
  pub between : Tabled
  pub up : ComesUp service default c old between
  pub flag : ℕ
  pub command : Command
  pub work : Work
  pub statements : ClientStatements
  pub asked : (setup : Setup) → AreKeyed keyed setup.keys
      → asked_by setup route (turn service default up.row.desk.seat) up.message.payload ≡ Some (record { command = command; key = work.key })
  pub request : (reads : Reads) → AreClasses reads → IsRequest reads up.ordinal work.key command route.multiplex work
  pub hostgroup : work.hostgroup ≡ route.hostgroup
  pub numbered : IsNumberedAs route work (turn service default up.row.desk.seat).statements
  pub keyed_for : (setup : Setup) → AreKeyed keyed setup.keys → (due : Due) → due.key ≡ work.key
      → due.place ≡ (turn service default up.row.desk.seat).place → IsKeyedFor setup route due command
  pub whole : AreBoundSo (turn service default up.row.desk.seat).statements → HasArgs command
  pub noted : AreNoted false up.message.payload (turn service default up.row.desk.seat).statements statements
  pub same : IsSame new (client_changed c (goes flag work statements) between)

-- The router answers it; a COM_RESET_CONNECTION begins anew.

abbrev pub MakesAnswer : (anew : Bool) → ClientNo → (flag : ℕ) → (packets : List ℕ) → ClientStatements → Client → (between new : Tabled) → Type 0
MakesAnswer true c flag packets statements row between new = MayLeave row × IsSame new (begins_anew c flag packets statements between)
MakesAnswer false c flag packets statements row between new = IsSame new (client_changed c (answers flag packets statements) between)

pub record AnswersBy (service : Service) (default : List ℕ) (payloads : List (List ℕ)) (c : ClientNo) (old new : Tabled) : Type 0 where
  pub between : Tabled
  pub up : ComesUp service default c old between
  pub flag : ℕ
  pub packets : List ℕ
  pub statements : ClientStatements
  pub spelt : packets ≡ spellings (turn service default up.row.desk.seat).first payloads
  pub noted : AreNoted true up.message.payload (turn service default up.row.desk.seat).statements statements
  pub makes : MakesAnswer (is_reset up.message) c flag packets statements up.row between new

abbrev pub IsTurn : Choice → Service → (default : List ℕ) → ClientNo → (old new : Tabled) → Type 0
IsTurn (Goes route keyed) service default c old new = GoesBy service default route keyed c old new
IsTurn (Answers payloads) service default c old new = AnswersBy service default payloads c old new

-- How it ends.

pub record WaitsThere (c : ClientNo) (old new : Tabled) : Type 0 where
  pub row : Client
  pub there : old.clients c ≡ Some row
  pub waits : waits_at row ≡ true
  pub same : IsSame new old

pub record RestsThere (service : Service) (default : List ℕ) (c : ClientNo) (old new : Tabled) : Type 0 where
  pub row : Client
  pub looks : IsLookedAt service default c old row next.Nothing
  pub same : IsSame new (looked service default c old)

pub record QuitsThere (service : Service) (default : List ℕ) (c : ClientNo) (old new : Tabled) : Type 0 where
  pub between : Tabled
  pub up : ComesUp service default c old between
  pub flag : ℕ
  pub statements : ClientStatements
  pub quits_only : is_reset up.message ≡ false
  pub lives : MayLeave up.row
  pub same : IsSame new (quits c flag statements between)

pub record EndsThere (service : Service) (default : List ℕ) (c : ClientNo) (old new : Tabled) : Type 0 where
  pub row : Client
  pub looks : IsLookedAt service default c old row next.Ended
  pub lives : MayLeave row
  pub same : IsSame new (left_in c (turn service default) old)

abbrev pub HaltsSo : Halt → Service → (default : List ℕ) → ClientNo → (old new : Tabled) → Type 0
HaltsSo Waits service default c old new = WaitsThere c old new
HaltsSo Rests service default c old new = RestsThere service default c old new
HaltsSo Quits service default c old new = QuitsThere service default c old new
HaltsSo Ends service default c old new = EndsThere service default c old new

-- All of it: turns by these choices, and then this end.
abbrev pub Turns : List Choice → Halt → Service → (default : List ℕ) → ClientNo → (old new : Tabled) → Type 0
Turns [] halt service default c old new = HaltsSo halt service default c old new
Turns (choice ∷ others) halt service default c old new =
    (between : Tabled) × IsTurn choice service default c old between × Turns others halt service default c between new

-- How many messages that takes up.

abbrev pub is_quitting : Halt → Bool
is_quitting Quits = true
is_quitting _ = false

abbrev pub count_by : List Choice → Halt → ℕ
count_by choices halt = length choices + (if is_quitting halt then 1 else 0)
