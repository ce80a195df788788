-- Behind a look at which nothing more came up no error stands next in what is kept of a client.
use Rattle.std.specs.Prelude.{◌≡◌, ℕ, Bool, true, false, if◌then◌else◌, is_some, List, [], ◌∷◌, Option, Some, None, Result, Ok, Err}
use Rattle.std.proofs.Common.{refl, sym, ap, ◌∙◌, subst}
use Rattle.std.proofs.lemmas.Bool.{false≢true, true≢false}
use Rattle.std.proofs.lemmas.Option.{none-some, same_Some}
use Rattle.client_session.specs.Setups.{Setup as Service, users_at}
use Rattle.handshake.specs.Response.{response_of}
use Rattle.handshake.specs.declared.fault.HandFault.{HandFault}
use Rattle.handshake.specs.declared.response.Response.{Response}
use Rattle.packet_frame.specs.FramerState.{look_by}
use Rattle.packet_frame.specs.Packets.{Found, first_message, next_id}
use Rattle.packet_frame.specs.Packets.Found.{Faulty, Nothing, Whole}
use Rattle.packet_frame.specs.declared.fault.FrameFault.{FrameFault}
use Rattle.server_side.specs.Account.{Account}
use Rattle.client_side.specs.Client.{ClientState, login_of}
use Rattle.client_side.specs.Login.{needs_switch}
use Rattle.client_side.specs.Steps.{answer_found, asked, behind, command_found, logs_in, look_login, next_of, response_found, response_read}
use Rattle.client_side.specs.declared.stage.Stage.{Stage}
use Rattle.client_side.specs.declared.stage.Stage.TheVariants as stage
use Rattle.client_side.specs.declared.step.ClientStep.{ClientStep}
use Rattle.client_side.specs.declared.step.ClientStep.TheVariants as says
use Rattle.client_session.specs.Accounts.{account_of}
use Rattle.client_seat.specs.Seats.{account_in, has_room}
use Rattle.client_seat.specs.declared.seat.Seat.{Seat}
use Rattle.client_seat.specs.Turns.{LoginStep, Turn, admitted, logs_in_as, logs_in_if, looks_in, message_by, message_found, next_message, rests, stepped_in, turned_in}
use Rattle.client_seat.specs.declared.phase.Phase.{Phase}
use Rattle.client_seat.specs.declared.phase.Phase.TheVariants as phase
use Rattle.private_model.specs.Names.{ClientNo}
use Rattle.core_tables.specs.Arrivals.{seated, turn}
use Rattle.core_tables.specs.Tables.{Tabled}
use Rattle.core_tables.specs.declared.client.Client.{Client}
use Rattle.core_laws.proofs.OfArrival.Changing.{changed-so}
use Rattle.core_laws.specs.clients.Follows.{IsUnfaulty}
use Rattle.core_laws.specs.clients.Turns.{Choice, Rests as Resting, RestsThere, Turns}

-- The step of a client: none in its login leaves it among commands.

abbrev Others : ClientState → Type 0
Others client = client.stage ≡ stage.Commands → ⊥

answer_other : (response : Response) (client : ClientState) (found : Found) → Others client → Others (answer_found response client found).client
answer_other response client Nothing other is = other is
answer_other response client (Whole message rest) other is = cc
answer_other response client (Faulty fault) other is = other is

choice_other : (b : Bool) (id : ℕ) (response : Response) (client : ClientState)
    → Others (if b then answer_found response (asked response client) (look_login 3 client.framer) else logs_in response id client).client
choice_other true id response client is = answer_other response (asked response client) (look_login 3 client.framer) (λ is. cc) is
choice_other false id response client is = cc

read_other : (id : ℕ) (decoded : Result Response HandFault) (client : ClientState) → Others (response_read id decoded client).client
read_other id (Err fault) client is = cc
read_other id (Ok response) client is = choice_other (needs_switch response.plugin) id response client is

response_other : (client : ClientState) (found : Found) → Others client → Others (response_found client found).client
response_other client Nothing other is = other is
response_other client (Whole message rest) other is = read_other (next_id message.last) (response_of message.payload) (behind message client) is
response_other client (Faulty fault) other is = other is

not_commands : (at : Stage) (client : ClientState) → client.stage ≡ at → (at ≡ stage.Commands → ⊥) → Others client
not_commands at client is other commands = other (sym is ∙ commands)

-- of a command
command_by : (client : ClientState) (was : Option FrameFault) → client.framer.fault ≡ was → (found : Found)
    → first_message client.framer.limit 0 client.framer.kept ≡ found → IsUnfaulty (command_found client (look_by was found)).client
command_by client (Some bad) at found is commands none fault stands = absurd (none-some bad (sym none))
command_by client None at Nothing is commands none fault stands = let no : Nothing ≡ Faulty fault = sym is ∙ stands in cc
command_by client None at (Whole message rest) is commands none fault stands = let no : Whole message rest ≡ Faulty fault = sym is ∙ stands in cc
command_by client None at (Faulty bad) is commands none fault stands = absurd (none-some bad (sym none))

next_unfaulty : (at : Stage) (client : ClientState) → client.stage ≡ at → IsUnfaulty (next_of at client).client
next_unfaulty stage.Response client is commands =
    absurd (response_other client (look_login 1 client.framer) (not_commands stage.Response client is (λ no. cc)) commands)
next_unfaulty (stage.Answer response) client is commands =
    absurd (answer_other response client (look_login 3 client.framer) (not_commands (stage.Answer response) client is (λ no. cc)) commands)
next_unfaulty (stage.Login response first) client is commands =
    absurd (not_commands (stage.Login response first) client is (λ no. cc) commands)
next_unfaulty (stage.Refused first fault) client is commands =
    absurd (not_commands (stage.Refused first fault) client is (λ no. cc) commands)
next_unfaulty stage.Commands client is commands =
    command_by client client.framer.fault refl (first_message client.framer.limit 0 client.framer.kept) refl commands

-- So it is of a seat that is served, and whose last message is answered.

abbrev Serves : Seat → Type 0
Serves seat = is_some (account_in seat.phase) ≡ true

both_client : (b : Bool) (k : ClientState) (x y : Turn) → x.seat.client ≡ k → y.seat.client ≡ k → (if b then x else y).seat.client ≡ k
both_client true k x y first second = first
both_client false k x y first second = second

unserved : {A : Type 0} (seat : Seat) (at : Phase) → seat.phase ≡ at → account_in at ≡ None → Serves seat → A
unserved seat at same none serves =
    absurd (false≢true (sym (ap (λ (p : Phase). is_some (account_in p)) same ∙ ap is_some none) ∙ serves))

message_unfaulty : (limit : ℕ) (step : ClientStep) (seat : Seat) → IsUnfaulty seat.client → Serves (message_by limit step seat).seat
    → IsUnfaulty (message_by limit step seat).seat.client
message_unfaulty limit (says.Message ordinal first) seat is serves =
    subst IsUnfaulty (sym (both_client (has_room seat) seat.client _ (rests seat) refl refl)) is
message_unfaulty limit (says.Refused first fault) seat is serves = absurd (false≢true serves)
message_unfaulty limit says.Nothing seat is serves = is
message_unfaulty limit (says.Login first) seat is serves = is

next_seat_by : (limit : ℕ) (seat : Seat) (b : Bool) → seat.answered ≡ b
    → Serves (if b then message_found limit (next_of seat.client.stage seat.client) seat else rests seat).seat
    → (if b then message_found limit (next_of seat.client.stage seat.client) seat else rests seat).seat.answered ≡ true
    → IsUnfaulty (if b then message_found limit (next_of seat.client.stage seat.client) seat else rests seat).seat.client
next_seat_by limit seat true at serves answered =
    message_unfaulty limit (next_of seat.client.stage seat.client).step (record seat { client = (next_of seat.client.stage seat.client).client })
    (next_unfaulty seat.client.stage seat.client refl) serves
next_seat_by limit seat false at serves answered = absurd (false≢true (sym at ∙ answered))

next_seat : (limit : ℕ) (seat : Seat) → Serves (next_message limit seat).seat → (next_message limit seat).seat.answered ≡ true
    → IsUnfaulty (next_message limit seat).seat.client
next_seat limit seat = next_seat_by limit seat seat.answered refl

as_unfaulty : (known : Option Account) (setup : Service) (default : List ℕ) (response : Response) (first : ℕ) (seat : Seat)
    → Serves (logs_in_as known setup default response first seat).seat → (logs_in_as known setup default response first seat).seat.answered ≡ true
    → IsUnfaulty (logs_in_as known setup default response first seat).seat.client
as_unfaulty (Some account) setup default response first seat serves answered =
    next_seat setup.limit (admitted default account response first seat) serves answered
as_unfaulty None setup default response first seat serves answered = absurd (false≢true serves)

if_unfaulty : (found : Option Response) (setup : Service) (default : List ℕ) (first : ℕ) (seat : Seat) → seat.phase ≡ phase.LoggingIn
    → Serves (logs_in_if setup default found first seat).seat → (logs_in_if setup default found first seat).seat.answered ≡ true
    → IsUnfaulty (logs_in_if setup default found first seat).seat.client
if_unfaulty None setup default first seat at serves answered = unserved seat phase.LoggingIn at refl serves
if_unfaulty (Some response) setup default first seat at serves answered =
    as_unfaulty (account_of (users_at setup seat.port) seat.client.salt response) setup default response first seat serves answered

looks_unfaulty : (step : ClientStep) (setup : Service) (default : List ℕ) (seat : Seat) → seat.phase ≡ phase.LoggingIn
    → Serves (looks_in setup default step seat).seat → (looks_in setup default step seat).seat.answered ≡ true
    → IsUnfaulty (looks_in setup default step seat).seat.client
looks_unfaulty (says.Login first) setup default seat at serves answered =
    if_unfaulty (login_of seat.client.stage) setup default first seat at serves answered
looks_unfaulty (says.Refused first fault) setup default seat at serves answered = absurd (false≢true serves)
looks_unfaulty says.Nothing setup default seat at serves answered = unserved seat phase.LoggingIn at refl serves
looks_unfaulty (says.Message ordinal first) setup default seat at serves answered = unserved seat phase.LoggingIn at refl serves

turned_by : (at : Phase) (setup : Service) (default : List ℕ) (seat : Seat) → seat.phase ≡ at → Serves (turned_in at setup default seat).seat
    → (turned_in at setup default seat).seat.answered ≡ true → IsUnfaulty (turned_in at setup default seat).seat.client
turned_by phase.LoggingIn setup default seat at serves answered =
    let found : LoginStep = stepped_in (next_of seat.client.stage seat.client) seat in
    looks_unfaulty found.step setup default found.seat at serves answered
turned_by (phase.Serving account) setup default seat at serves answered = next_seat setup.limit seat serves answered
turned_by phase.Ended setup default seat at serves answered = unserved seat phase.Ended at refl serves

-- And of the row behind turns that rest.

rests_row : (service : Service) (default : List ℕ) (c : ClientNo) (old new : Tabled) (row : Client) → RestsThere service default c old new
    → new.clients c ≡ Some row → Serves row.desk.seat → row.desk.seat.answered ≡ true → IsUnfaulty row.desk.seat.client
rests_row service default c old new row there at serves answered =
    let is : row ≡ seated (turn service default) there.row =
    same_Some row (seated (turn service default) there.row)
    (sym at ∙ changed-so (turn service default) c old new there.row there.looks.there there.same) in
    subst (λ (r : Client). IsUnfaulty r.desk.seat.client) (sym is)
    (turned_by there.row.desk.seat.phase service default there.row.desk.seat refl
    (subst (λ (r : Client). Serves r.desk.seat) is serves) (subst (λ (r : Client). r.desk.seat.answered ≡ true) is answered))

pub turns_unfaulty : (service : Service) (default : List ℕ) (c : ClientNo) (choices : List Choice) (old new : Tabled) (row : Client)
    → Turns choices Resting service default c old new → new.clients c ≡ Some row → is_some (account_in row.desk.seat.phase) ≡ true
    → row.desk.seat.answered ≡ true → IsUnfaulty row.desk.seat.client
turns_unfaulty service default c [] old new row turns at serves answered = rests_row service default c old new row turns at serves answered
turns_unfaulty service default c (choice ∷ others) old new row turns at serves answered =
    turns_unfaulty service default c others turns.0 new row turns.2 at serves answered
