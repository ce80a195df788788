-- How the bytes of a client begin: its response to the greeting, and the bare answer where it is asked to switch the login method.
use Rattle.std.specs.Prelude.{ℕ, ◌+◌, ◌-◌, ◌/◌, ◌%◌, Bool, true, false, nat_lt, not, bytes_eq, List, Option, Some, None, Result, Ok, Err, if◌then◌else◌}
use Rattle.packet_frame.specs.declared.fault.FrameFault.{FrameFault}
use Rattle.packet_frame.specs.declared.fault.FrameFault.TheVariants.{OutOfOrder, TooLarge}
use Rattle.packet_frame.specs.Packets.{Found, longest, next_id, first_message, spelling}
use Rattle.packet_frame.specs.Packets.Found.{Nothing, Whole, Faulty}
use Rattle.handshake.specs.declared.fault.HandFault.{HandFault}
use Rattle.handshake.specs.declared.greeting.Greeting.{Greeting}
use Rattle.handshake.specs.declared.response.Response.{Response}
use Rattle.handshake.specs.Greeting.{greeting_bytes}
use Rattle.handshake.specs.Response.{response_of}
use Rattle.handshake.specs.Switch.{native_password, switch_bytes}
use Rattle.client_side.specs.declared.step.ClientFault.{ClientFault}
use Rattle.client_side.specs.declared.step.ClientFault.TheVariants.{Hand, Frame}

-- What the router says.

-- its greeting to the client of this number
abbrev pub own_greeting : (number : ℕ) → (salt version : List ℕ) → Greeting
own_greeting number salt version = record { version = version; connection = number % 4294967296; salt = salt; capabilities = 958991; collation = 45; status = 2; plugin = native_password }

abbrev pub greeting_said : (number : ℕ) → (salt version : List ℕ) → List ℕ
greeting_said number salt version = spelling 0 (greeting_bytes (own_greeting number salt version))

-- its request to switch, behind the response
abbrev pub switch_said : (salt : List ℕ) → List ℕ
switch_said salt = spelling 2 (switch_bytes (record { plugin = native_password; salt = salt }))

-- What the client says.

-- A client that isn't logged in says one message at a time, of at most 65,536 bytes, be the limit of its commands as great as it may.
abbrev pub login_limit : (limit : ℕ) → ℕ
login_limit limit = if nat_lt limit 65536 then limit else 65536

-- another login method is named
abbrev pub needs_switch : Option (List ℕ) → Bool
needs_switch None = false
needs_switch (Some plugin) = not (bytes_eq plugin native_password)

-- the id of an answer to a packet that can't be, of a message that begins with the id `due`; of one that is too large
-- the packets before that one have the longest body
abbrev pub fault_id : (due : ℕ) → FrameFault → ℕ
fault_id due (OutOfOrder expected found) = next_id found
fault_id due (TooLarge length) = next_id (due + (length - 1) / longest)

-- Not all of the login is there; who the client is, with its answer, the id of the answer to that, and the bytes behind the login; or why it
-- can't be read, with that id. Each says whether the client is asked to switch.
pub data Opening : Type 0 where
  Waits : (switched : Bool) → Opening
  Says : (switched : Bool) → Response → (id : ℕ) → (rest : List ℕ) → Opening
  Fails : (switched : Bool) → ClientFault → (id : ℕ) → Opening

abbrev pub switched_of : Opening → Bool
switched_of (Waits switched) = switched
switched_of (Says switched response id rest) = switched
switched_of (Fails switched fault id) = switched

abbrev pub by_answer : Response → Found → Opening
by_answer response Nothing = Waits true
by_answer response (Whole message rest) = Says true (record response { answer = message.payload }) (next_id message.last) rest
by_answer response (Faulty fault) = Fails true (Frame fault) (fault_id 3 fault)

-- the bare answer behind a switch has the id 3
abbrev pub answer_in : (limit : ℕ) → Response → List ℕ → Opening
answer_in limit response bytes = by_answer response (first_message (login_limit limit) 3 bytes)

abbrev pub by_response : (limit id : ℕ) → Result Response HandFault → List ℕ → Opening
by_response limit id (Err fault) rest = Fails false (Hand fault) id
by_response limit id (Ok response) rest = if needs_switch response.plugin then answer_in limit response rest else Says false response id rest

abbrev pub by_message : (limit : ℕ) → Found → Opening
by_message limit Nothing = Waits false
by_message limit (Whole message rest) = by_response limit (next_id message.last) (response_of message.payload) rest
by_message limit (Faulty fault) = Fails false (Frame fault) (fault_id 1 fault)

-- the response behind the greeting has the id 1
unfoldable pub opening : (limit : ℕ) → List ℕ → Opening
opening limit bytes = by_message limit (first_message (login_limit limit) 1 bytes)
