-- What a client says, the answer to its login, and the answer to a message that can't be. What it is due in all stands in promises.
use Rattle.std.specs.Prelude.{Bool, List, None, Ok, Option, Result, Some, [], false, true, ℕ, ◌++◌}
use Rattle.client_session.specs.{Accounts.account_of, Accounts.denial_of, Errors.bad_handshake, Errors.own_ok, Errors.packet_out_of_order}
use Rattle.client_session.specs.{Errors.packet_too_large, Setups.Setup, Setups.User, Setups.users_at}
use Rattle.mx_base.specs.declared.names.{Port.Port}
use Rattle.client_side.specs.{Login.Fails, Login.Opening, Login.Says, Login.Waits, Login.fault_id, Login.login_limit, Login.opening, Reading.said}
use Rattle.client_side.specs.{declared.step.ClientFault.ClientFault, declared.step.ClientFault.TheVariants.Frame, declared.step.ClientFault.TheVariants.Hand}
use Rattle.command_parse.specs.{Meaning.Meaning, Meaning.parsed, Meaning.Meaning.FieldList, Meaning.Meaning.InitDb, Meaning.Meaning.Query, Meaning.Meaning.Quit}
use Rattle.command_parse.specs.{declared.fault.CommandFault.CommandFault}
use Rattle.packet_frame.specs.{Packets.Split, Packets.spelling, Packets.split, declared.fault.FrameFault.FrameFault}
use Rattle.packet_frame.specs.{declared.fault.FrameFault.TheVariants.OutOfOrder, declared.fault.FrameFault.TheVariants.TooLarge}
use Rattle.{handshake.specs.declared.response.Response.Response, server_side.specs.Account.Account}

-- What a client says.

-- what sessions go by, the client's port, number and salt, and the bytes that were read of it
pub record Talk : Type 0 where
  pub setup : Setup
  pub port : Port
  pub number : ℕ
  pub salt : List ℕ
  pub read : List ℕ

-- who may log in where it came
abbrev pub users_of : Talk → List User
users_of talk = users_at talk.setup talk.port

abbrev pub heard_more : Talk → List ℕ → Talk
heard_more talk more = record talk { read = talk.read ++ more }

-- how far its login is
abbrev pub opening_of : Talk → Opening
opening_of talk = opening talk.setup.limit talk.read

-- not all of it is there
abbrev pub waits_in : Opening → Bool
waits_in (Waits switched) = true
waits_in _ = false

abbrev pub lacks_login : Talk → Bool
lacks_login talk = waits_in (opening_of talk)

-- who it is, once it is logged in
abbrev pub account_in : Talk → Opening → Option Account
account_in talk (Says switched response id rest) = account_of (users_of talk) talk.salt response
account_in talk _ = None

abbrev pub account : Talk → Option Account
account talk = account_in talk (opening_of talk)

-- the bytes of its commands: those behind its login
abbrev pub if_known : Option Account → List ℕ → List ℕ
if_known None rest = []
if_known (Some account) rest = rest

abbrev pub commands_in : Talk → Opening → List ℕ
commands_in talk (Says switched response id rest) = if_known (account_of (users_of talk) talk.salt response) rest
commands_in talk _ = []

abbrev pub commands : Talk → List ℕ
commands talk = commands_in talk (opening_of talk)

-- its commands are messages that begin with the id 0
abbrev pub client_messages : (limit : ℕ) → List ℕ → Split
client_messages limit bytes = split limit 0 bytes

abbrev pub messages_of : Talk → Split
messages_of talk = client_messages talk.setup.limit (commands talk)

-- The answer to its login.

abbrev pub greeted : Talk → (switched : Bool) → List ℕ
greeted talk switched = said talk.number talk.salt talk.setup.version switched

abbrev pub login_answer : (denial : List ℕ) → Option Account → List ℕ
login_answer denial None = denial
login_answer denial (Some account) = own_ok

abbrev pub answer_to_login : Talk → Response → List ℕ
answer_to_login talk response =
    login_answer (denial_of (users_of talk) talk.salt response) (account_of (users_of talk) talk.salt response)

abbrev pub frame_error : (limit : ℕ) → FrameFault → List ℕ
frame_error limit (OutOfOrder expected found) = packet_out_of_order expected found
frame_error limit (TooLarge length) = packet_too_large length limit

abbrev pub fault_error : (limit : ℕ) → ClientFault → List ℕ
fault_error limit (Hand fault) = bad_handshake
fault_error limit (Frame fault) = frame_error limit fault

-- what comes before the answers to its commands
abbrev pub front_in : Talk → Opening → List ℕ
front_in talk (Waits switched) = greeted talk switched
front_in talk (Says switched response id rest) = greeted talk switched ++ spelling id (answer_to_login talk response)
front_in talk (Fails switched fault id) = greeted talk switched ++ spelling id (fault_error (login_limit talk.setup.limit) fault)

abbrev pub front : Talk → List ℕ
front talk = front_in talk (opening_of talk)

-- Its messages.

-- a query is what a server answers: a text, the choice of a schema, or the question for a table's columns
abbrev pub query_by : Result Meaning CommandFault → Bool
query_by (Ok (Query text)) = true
query_by (Ok (InitDb schema)) = true
query_by (Ok (FieldList rest)) = true
query_by _ = false

abbrev pub is_query : List ℕ → Bool
is_query payload = query_by (parsed payload)

abbrev pub quit_by : Result Meaning CommandFault → Bool
quit_by (Ok Quit) = true
quit_by _ = false

abbrev pub is_quit : List ℕ → Bool
is_quit payload = quit_by (parsed payload)

-- a message that can't be is answered once, and none after it
abbrev pub fault_answer : (limit : ℕ) → Option FrameFault → List ℕ
fault_answer limit None = []
fault_answer limit (Some fault) = spelling (fault_id 0 fault) (frame_error limit fault)
