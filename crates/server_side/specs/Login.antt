-- How the bytes of a server begin: its greeting, maybe a request to switch the login method, and an OK; and what the router says to these.
use Rattle.std.specs.Prelude.{ℕ, Bool, false, nat_eq, ◌&&◌, bit_and, bytes_eq, List, [], ◌∷◌, ◌++◌, Option, Some, None, Result, Ok, Err, if◌then◌else◌}
use Rattle.mx_base.specs.Fields.{number_at}
use Rattle.packet_frame.specs.Packets.{Framed, Found, first_message, spelling}
use Rattle.packet_frame.specs.Packets.Found.{Nothing, Whole, Faulty}
use Rattle.reply_text.specs.Replies.{is_lone}
use Rattle.native_auth.specs.Native.{answer_of, bytes_of}
use Rattle.handshake.specs.declared.fault.HandFault.{HandFault}
use Rattle.handshake.specs.declared.greeting.Greeting.{Greeting}
use Rattle.handshake.specs.declared.response.Response.{Response}
use Rattle.handshake.specs.declared.switch.Switch.{Switch}
use Rattle.handshake.specs.Greeting.{greeting_of}
use Rattle.handshake.specs.Response.{response_bytes}
use Rattle.handshake.specs.Switch.{native_password, switch_of}
use Rattle.server_side.specs.Account.{Account}
use Rattle.server_side.specs.declared.fault.BackendFault.{BackendFault}
use Rattle.server_side.specs.declared.fault.BackendFault.TheVariants.{BadBytes, Plugin, Denied}

-- a message of a server is one packet
abbrev pub most_payload : ℕ
most_payload = 16777214

-- What the router says.

-- LONG_PASSWORD, LONG_FLAG, PROTOCOL_41, TRANSACTIONS, SECURE_CONNECTION, MULTI_RESULTS, PS_MULTI_RESULTS, PLUGIN_AUTH, and maybe FOUND_ROWS
abbrev pub wanted : (found_rows : Bool) → ℕ
wanted found_rows = if found_rows then 958983 else 958981

-- of these the ones that the server offers; no schema is named
abbrev pub own_response : Account → Greeting → Response
own_response account greeting = record {
  capabilities = bit_and (wanted account.found_rows) greeting.capabilities;
  max_packet = 16777216;
  collation = 45;
  user = account.user;
  answer = bytes_of (answer_of account.password greeting.salt);
  schema = None;
  plugin = Some native_password;
}

unfoldable pub response_said : Account → Greeting → List ℕ
response_said account greeting = spelling 1 (response_bytes (own_response account greeting))

unfoldable pub answer_said : Account → (salt : List ℕ) → List ℕ
answer_said account salt = spelling 3 (bytes_of (answer_of account.password salt))

-- What the server says.

-- FOUND_ROWS is wanted and not offered
abbrev pub lacks_found_rows : (found_rows : Bool) → (offered : ℕ) → Bool
lacks_found_rows found_rows offered = found_rows && nat_eq (bit_and offered 2) 0

-- the code of an ERR, with or without an SQL state
abbrev pub code_or_none : Option ℕ → ℕ
code_or_none None = 0
code_or_none (Some code) = code

abbrev pub denied_by : Option ℕ → List ℕ → Option ℕ
denied_by None payload = None
denied_by (Some first) payload = if nat_eq first 255 then Some (code_or_none (number_at 2 1 payload)) else None

abbrev pub denied : List ℕ → Option ℕ
denied payload = denied_by (number_at 1 0 payload) payload

-- a request to switch
abbrev pub asks_switch : List ℕ → Bool
asks_switch [] = false
asks_switch (byte ∷ bytes) = nat_eq byte 254

-- The login goes on; it is there, with the bytes behind it; or it fails. What the router says to it so far is in each.
pub data Opening : Type 0 where
  Goes : (said : List ℕ) → Opening
  LogsIn : (said rest : List ℕ) → Opening
  Fails : (said : List ℕ) → BackendFault → Opening

abbrev pub said_of : Opening → List ℕ
said_of (Goes said) = said
said_of (LogsIn said rest) = said
said_of (Fails said fault) = said

abbrev pub bad : (said : List ℕ) → Opening
bad said = Fails said (BadBytes 0)

-- an ERR, or an OK that no result follows
abbrev pub by_end : (said : List ℕ) → Option ℕ → Framed → List ℕ → Opening
by_end said (Some code) message rest = Fails said (Denied code)
by_end said None message rest = if is_lone message.payload then LogsIn said rest else bad said

abbrev pub end_by : (said : List ℕ) → Found → Opening
end_by said Nothing = Goes said
end_by said (Whole message rest) = by_end said (denied message.payload) message rest
end_by said (Faulty fault) = bad said

-- behind the bare answer the id is 4
abbrev pub end_in : (said : List ℕ) → List ℕ → Opening
end_in said bytes = end_by said (first_message most_payload 4 bytes)

-- the one login method that the router has
abbrev pub by_switch : Account → (said : List ℕ) → Result Switch HandFault → List ℕ → Opening
by_switch account said (Err fault) rest = bad said
by_switch account said (Ok switch) rest = if bytes_eq switch.plugin native_password then end_in (said ++ answer_said account switch.salt) rest else Fails said (Plugin switch.plugin)

abbrev pub welcome_by : Account → (said : List ℕ) → Found → Opening
welcome_by account said Nothing = Goes said
welcome_by account said (Whole message rest) =
    if asks_switch message.payload then by_switch account said (switch_of message.payload) rest else by_end said (denied message.payload) message rest
welcome_by account said (Faulty fault) = bad said

-- behind the response it is 2
abbrev pub welcome_in : Account → (said : List ℕ) → List ℕ → Opening
welcome_in account said bytes = welcome_by account said (first_message most_payload 2 bytes)

abbrev pub by_greeting : Account → Result Greeting HandFault → List ℕ → Opening
by_greeting account (Err fault) rest = bad []
by_greeting account (Ok greeting) rest = if lacks_found_rows account.found_rows greeting.capabilities then bad [] else welcome_in account (response_said account greeting) rest

-- an ERR in the greeting's place refuses the router
abbrev pub greeting_or_not : Account → Option ℕ → Framed → List ℕ → Opening
greeting_or_not account (Some code) message rest = Fails [] (Denied code)
greeting_or_not account None message rest = by_greeting account (greeting_of message.payload) rest

abbrev pub greeting_by : Account → Found → Opening
greeting_by account Nothing = Goes []
greeting_by account (Whole message rest) = greeting_or_not account (denied message.payload) message rest
greeting_by account (Faulty fault) = bad []

-- the greeting has the id 0
unfoldable pub opening : Account → List ℕ → Opening
opening account bytes = greeting_by account (first_message most_payload 0 bytes)
