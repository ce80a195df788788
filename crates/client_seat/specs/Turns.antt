-- What a client says next, and what that makes of its seat.
use Rattle.std.specs.Prelude.{◌≡◌, ℕ, List, ◌||◌, length, nat_eq, not, if◌then◌else◌, IsSome, Option, Some, None}
use Rattle.packet_frame.specs.Packets.{spelling}
use Rattle.handshake.specs.declared.response.Response.{Response}
use Rattle.server_side.specs.Account.{Account}
use Rattle.client_side.specs.Client.{login_of}
use Rattle.client_side.specs.Login.{login_limit}
use Rattle.client_side.specs.Steps as steps
use Rattle.client_side.specs.declared.stage.Stage.{Stage}
use Rattle.client_side.specs.declared.stage.Stage.TheVariants as stage
use Rattle.client_side.specs.declared.step.ClientStep.{ClientStep}
use Rattle.client_side.specs.declared.step.ClientStep.TheVariants as says
use Rattle.client_session.specs.Accounts.{account_of, denial_of}
use Rattle.client_session.specs.Answers.{fault_error}
use Rattle.client_session.specs.Errors.{own_ok}
use Rattle.client_session.specs.Setups.{Setup, users_at}
use Rattle.client_seat.specs.Outgoing.{said}
use Rattle.client_seat.specs.Seats.{Seat, drained, first_place, has_room}
use Rattle.client_seat.specs.declared.next.Next.{Next}
use Rattle.client_seat.specs.declared.next.Next.TheVariants as next
use Rattle.client_seat.specs.declared.phase.Phase.{Phase}
use Rattle.client_seat.specs.declared.phase.Phase.TheVariants as phase

-- the seat that is left, and what the client says
pub record Turn : Type 0 where
  pub seat : Seat
  pub next : Next

abbrev pub rests : Seat → Turn
rests seat = record { seat = seat; next = next.Nothing }

-- it ends, and these packets are the last that it is told
abbrev pub parts_with : (packets : List ℕ) → Seat → Seat
parts_with packets seat = record seat { phase = phase.Ended; outbox = said packets seat.outbox }

abbrev pub leaves : (packets : List ℕ) → Seat → Turn
leaves packets seat = record { seat = parts_with packets seat; next = next.Ended }

-- Its messages.

abbrev pub comes_up : (ordinal first : ℕ) → Seat → Turn
comes_up ordinal first seat =
    if has_room seat then record { seat = record seat { first = first }; next = next.Message ordinal } else rests seat

abbrev pub message_by : (limit : ℕ) → ClientStep → Seat → Turn
message_by limit (says.Message ordinal first) seat = comes_up ordinal first seat
message_by limit (says.Refused first fault) seat = leaves (spelling first (fault_error limit fault)) seat
message_by limit _ seat = rests seat

abbrev pub message_found : (limit : ℕ) → steps.Next → Seat → Turn
message_found limit found seat = message_by limit found.step (record seat { client = found.client })

-- where the last one is answered
abbrev pub next_message : (limit : ℕ) → Seat → Turn
next_message limit seat =
    if seat.answered then message_found limit (steps.next_of seat.client.stage seat.client) seat else rests seat

-- Its login.

abbrev pub admitted : (default : List ℕ) → Account → Response → (first : ℕ) → Seat → Seat
admitted default account response first seat = record seat {
  client = record seat.client { stage = stage.Commands };
  phase = phase.Serving account;
  place = first_place default response;
  collation = response.collation;
  outbox = said (spelling first own_ok) seat.outbox;
}

abbrev pub logs_in_as : Option Account → Setup → (default : List ℕ) → Response → (first : ℕ) → Seat → Turn
logs_in_as (Some account) setup default response first seat =
    next_message setup.limit (admitted default account response first seat)
logs_in_as None setup default response first seat =
    leaves (spelling first (denial_of (users_at setup seat.port) seat.client.salt response)) seat

abbrev pub logs_in : Setup → (default : List ℕ) → Response → (first : ℕ) → Seat → Turn
logs_in setup default response first seat =
    logs_in_as (account_of (users_at setup seat.port) seat.client.salt response) setup default response first seat

abbrev pub logs_in_if : Setup → (default : List ℕ) → Option Response → (first : ℕ) → Seat → Turn
logs_in_if setup default None first seat = rests seat
logs_in_if setup default (Some response) first seat = logs_in setup default response first seat

abbrev pub looks_in : Setup → (default : List ℕ) → ClientStep → Seat → Turn
looks_in setup default (says.Login first) seat = logs_in_if setup default (login_of seat.client.stage) first seat
looks_in setup default (says.Refused first fault) seat =
    leaves (spelling first (fault_error (login_limit setup.limit) fault)) seat
looks_in setup default _ seat = rests seat

-- what stands behind a step of a login
abbrev pub IsLoginStep : ClientStep → Stage → Type 0
IsLoginStep (says.Login first) at = IsSome (login_of at)
IsLoginStep _ at = Unit {0}

-- with the request to switch, where it is asked to
abbrev pub told_in : Seat → Seat
told_in seat = drained (record seat { switched = seat.switched || not (nat_eq (length seat.client.outgoing) 0) })

pub record LoginStep : Type 0 where
  pub step : ClientStep
  pub seat : Seat

abbrev pub stepped_in : steps.Next → Seat → LoginStep
stepped_in found seat = record { step = found.step; seat = told_in (record seat { client = found.client }) }

abbrev pub login_found : Setup → (default : List ℕ) → LoginStep → Turn
login_found setup default found = looks_in setup default found.step found.seat

abbrev pub turned_in : Phase → Setup → (default : List ℕ) → Seat → Turn
turned_in phase.LoggingIn setup default seat = login_found setup default (stepped_in (steps.next_of seat.client.stage seat.client) seat)
turned_in (phase.Serving account) setup default seat = next_message setup.limit seat
turned_in phase.Ended setup default seat = rests seat

abbrev pub turned : Setup → (default : List ℕ) → Seat → Turn
turned setup default seat = turned_in seat.phase setup default seat

-- a message that came up is found
abbrev pub IsUp : Next → Seat → Type 0
IsUp (next.Message ordinal) seat = IsSome seat.client.framer.found × (seat.client.stage ≡ stage.Commands)
IsUp _ seat = Unit {0}

-- the seat behind the next step of its login
abbrev pub stepped : Seat → Seat
stepped seat = told_in (record seat { client = (steps.next_of seat.client.stage seat.client).client })
