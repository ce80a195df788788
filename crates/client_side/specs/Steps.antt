-- What a client says next, and what is left of it.
use Rattle.std.specs.Prelude.{◌≡◌, ◌⊎◌, ℕ, true, ◌++◌, IsSome, Result, Ok, Err, if◌then◌else◌}
use Rattle.packet_frame.specs.FramerState.{FramerState, look, seen}
use Rattle.packet_frame.specs.Packets.{Framed, Found, next_id}
use Rattle.packet_frame.specs.Packets.Found.{Nothing, Whole, Faulty}
use Rattle.handshake.specs.declared.fault.HandFault.{HandFault}
use Rattle.handshake.specs.declared.response.Response.{Response}
use Rattle.handshake.specs.Response.{response_of}
use Rattle.client_side.specs.declared.stage.Stage.{Stage}
use Rattle.client_side.specs.declared.stage.Stage.TheVariants as stage
use Rattle.client_side.specs.declared.step.ClientFault.TheVariants.{Hand, Frame}
use Rattle.client_side.specs.declared.step.ClientStep.{ClientStep}
use Rattle.client_side.specs.declared.step.ClientStep.TheVariants as step
use Rattle.client_side.specs.Login.{switch_said, needs_switch, fault_id, login_limit}
use Rattle.client_side.specs.Client.{ClientState, counted, past_message, HasFound}

-- what is found of a login: its messages are shorter than commands may be
abbrev pub look_login : (first : ℕ) → FramerState → Found
look_login first framer = look first (record framer { limit = login_limit framer.limit })

-- a step, and the client that is left
pub record Next : Type 0 where
  pub step : ClientStep
  pub client : ClientState

-- the client whose framer has looked for a message
abbrev pub looked : ClientState → Found → ClientState
looked client found = record client { framer = seen client.framer found }

abbrev pub nothing : ClientState → Next
nothing client = record { step = step.Nothing; client = looked client Nothing }

-- a packet can't be, of a message that begins with the id `due`
abbrev pub unframed : (due : ℕ) → Rattle.packet_frame.specs.declared.fault.FrameFault.FrameFault → ClientState → Next
unframed due fault client = record { step = step.Refused (fault_id due fault) (Frame fault); client = looked client (Faulty fault) }

-- the client whose message was taken from the bytes that are kept
abbrev pub behind : Framed → ClientState → ClientState
behind message client = record client { framer = past_message message client.framer }

-- the client says who it is
abbrev pub logs_in : Response → (first : ℕ) → ClientState → Next
logs_in response first client = record { step = step.Login first; client = record client { stage = stage.Login response first } }

-- the bare answer
abbrev pub answer_found : Response → ClientState → Found → Next
answer_found response client Nothing = nothing client
answer_found response client (Whole message rest) = logs_in (record response { answer = message.payload }) (next_id message.last) (behind message client)
answer_found response client (Faulty fault) = unframed 3 fault client

-- the client is asked to switch
abbrev pub asked : Response → ClientState → ClientState
asked response client = record client { stage = stage.Answer response; outgoing = client.outgoing ++ switch_said client.salt }

-- the response, where the id of an answer to it is `id`
abbrev pub response_read : (id : ℕ) → Result Response HandFault → ClientState → Next
response_read id (Err fault) client = record { step = step.Refused id (Hand fault); client = record client { stage = stage.Refused id fault } }
response_read id (Ok response) client = if needs_switch response.plugin then answer_found response (asked response client) (look_login 3 client.framer) else logs_in response id client

abbrev pub response_found : ClientState → Found → Next
response_found client Nothing = nothing client
response_found client (Whole message rest) = response_read (next_id message.last) (response_of message.payload) (behind message client)
response_found client (Faulty fault) = unframed 1 fault client

-- a command
abbrev pub command_found : ClientState → Found → Next
command_found client Nothing = nothing client
command_found client (Whole message rest) = record { step = step.Message (counted client.arrived) (next_id message.last); client = looked client (Whole message rest) }
command_found client (Faulty fault) = unframed 0 fault client

-- by how far the login is
abbrev pub next_of : Stage → ClientState → Next
next_of stage.Response client = response_found client (look_login 1 client.framer)
next_of (stage.Answer response) client = answer_found response client (look_login 3 client.framer)
next_of (stage.Login response first) client = record { step = step.Login first; client = client }
next_of (stage.Refused first fault) client = record { step = step.Refused first (Hand fault); client = client }
next_of stage.Commands client = command_found client (look 0 client.framer)

-- the same of the bare answer, where it is due, and of the message that is it
abbrev pub IsAnswerNext : Stage → ClientState → Next → Type 0
IsAnswerNext (stage.Answer response) client next = next ≡ answer_found response client (look_login 3 client.framer)
IsAnswerNext _ client next = Unit {0}

abbrev pub IsAnswerRead : Stage → Framed → ClientState → Next → Type 0
IsAnswerRead (stage.Answer response) message client next = next ≡ logs_in (record response { answer = message.payload }) (next_id message.last) (behind message client)
IsAnswerRead _ message client next = Unit {0}

-- what was found stays until it is done with
abbrev pub IsFoundBy : ClientStep → ClientState → Type 0
IsFoundBy (step.Login first) client = HasFound client.stage client.framer.found
IsFoundBy (step.Message ordinal first) client = HasFound client.stage client.framer.found × IsSome client.framer.found
IsFoundBy _ client = Unit {0}

-- Memory was refused: a message was found, and nothing else is new, unless the client is asked to switch already.

abbrev pub IsAskedOnly : Result Response HandFault → ClientState → ClientState → Type 0
IsAskedOnly (Err fault) client new = ⊥
IsAskedOnly (Ok response) client new = (needs_switch response.plugin ≡ true) × (new ≡ looked (asked response client) (look_login 3 client.framer))

abbrev pub IsUnread : Framed → ClientState → ClientState → Type 0
IsUnread message old new = (new ≡ old) ⊎ IsAskedOnly (response_of message.payload) (behind message old) new

abbrev pub IsUnanswered : ClientState → Found → ClientState → Type 0
IsUnanswered old (Whole message rest) new = IsUnread message (looked old (Whole message rest)) new
IsUnanswered old _ new = ⊥

abbrev pub IsHeldUp : Stage → ClientState → ClientState → Type 0
IsHeldUp stage.Response old new = IsUnanswered old (look_login 1 old.framer) new
IsHeldUp (stage.Answer response) old new = new ≡ looked old (look_login 3 old.framer)
IsHeldUp _ old new = ⊥
