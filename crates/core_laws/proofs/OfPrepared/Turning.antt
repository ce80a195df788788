-- As its client speaks, a seat keeps what that has prepared.
use Rattle.std.specs.Prelude.{◌≡◌, ℕ, Bool, true, false, if◌then◌else◌, List, Option, Some, None}
use Rattle.std.proofs.Common.{refl}
use Rattle.handshake.specs.declared.response.Response.{Response}
use Rattle.server_side.specs.Account.{Account}
use Rattle.client_side.specs.Client.{login_of}
use Rattle.client_side.specs.Steps as steps
use Rattle.client_side.specs.declared.step.ClientStep.{ClientStep}
use Rattle.client_side.specs.declared.step.ClientStep.TheVariants as says
use Rattle.client_session.specs.Accounts.{account_of}
use Rattle.client_session.specs.Setups.{Setup, users_at}
use Rattle.client_seat.specs.Seats.{has_room}
use Rattle.client_seat.specs.Turns.{Turn, admitted, comes_up, login_found, logs_in_as, logs_in_if, looks_in, message_by, message_found, next_message, rests, stepped_in, turned_in}
use Rattle.client_seat.specs.declared.next.Next.TheVariants as next
use Rattle.client_seat.specs.declared.phase.Phase.{Phase}
use Rattle.client_seat.specs.declared.phase.Phase.TheVariants as phase
use Rattle.client_seat.specs.declared.seat.Seat.{Seat}
use Rattle.core_tables.specs.Arrivals.{turn}

abbrev IsKept : Seat → Turn → Type 0
IsKept seat t = (t.seat.statements ≡ seat.statements) × (t.seat.answered ≡ seat.answered)

either : (seat : Seat) (b : Bool) (x y : Turn) → IsKept seat x → IsKept seat y → IsKept seat (if b then x else y)
either seat true x y first second = first
either seat false x y first second = second

message_keeps : (limit : ℕ) (step : ClientStep) (seat : Seat) → IsKept seat (message_by limit step seat)
message_keeps limit (says.Message ordinal first) seat =
    either seat (has_room seat) (record { seat = record seat { first = first }; next = next.Message ordinal }) (rests seat) (refl, refl) (refl, refl)
message_keeps limit (says.Refused first fault) seat = (refl, refl)
message_keeps limit (says.Login first) seat = (refl, refl)
message_keeps limit says.Nothing seat = (refl, refl)

next_keeps : (limit : ℕ) (seat : Seat) → IsKept seat (next_message limit seat)
next_keeps limit seat =
    let found : steps.Next = steps.next_of seat.client.stage seat.client in
    either seat seat.answered (message_found limit found seat) (rests seat) (message_keeps limit found.step (record seat { client = found.client })) (refl, refl)

login_keeps : (account : Option Account) (setup : Setup) (default : List ℕ) (response : Response) (first : ℕ) (seat : Seat)
    → IsKept seat (logs_in_as account setup default response first seat)
login_keeps (Some account) setup default response first seat = next_keeps setup.limit (admitted default account response first seat)
login_keeps None setup default response first seat = (refl, refl)

response_keeps : (found : Option Response) (setup : Setup) (default : List ℕ) (first : ℕ) (seat : Seat) → IsKept seat (logs_in_if setup default found first seat)
response_keeps None setup default first seat = (refl, refl)
response_keeps (Some response) setup default first seat =
    login_keeps (account_of (users_at setup seat.port) seat.client.salt response) setup default response first seat

looks_keep : (setup : Setup) (default : List ℕ) (step : ClientStep) (seat : Seat) → IsKept seat (looks_in setup default step seat)
looks_keep setup default (says.Login first) seat = response_keeps (login_of seat.client.stage) setup default first seat
looks_keep setup default (says.Refused first fault) seat = (refl, refl)
looks_keep setup default (says.Message ordinal first) seat = (refl, refl)
looks_keep setup default says.Nothing seat = (refl, refl)

turned_keeps : (at : Phase) (setup : Setup) (default : List ℕ) (seat : Seat) → IsKept seat (turned_in at setup default seat)
turned_keeps phase.LoggingIn setup default seat =
    let found = stepped_in (steps.next_of seat.client.stage seat.client) seat in looks_keep setup default found.step found.seat
turned_keeps (phase.Serving account) setup default seat = next_keeps setup.limit seat
turned_keeps phase.Ended setup default seat = (refl, refl)

pub turn_keeps : (setup : Setup) (default : List ℕ) (seat : Seat)
    → ((turn setup default seat).statements ≡ seat.statements) × ((turn setup default seat).answered ≡ seat.answered)
turn_keeps setup default seat = turned_keeps seat.phase setup default seat
