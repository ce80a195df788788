-- What a client's link is to its callers.
use Rattle.std.specs.Prelude.{◌≡◌, ℕ, ◌+◌, nat_lt, Bool, true, false, List, [], ◌++◌, Option, Some, None, IsSome, if◌then◌else◌}
use Rattle.mx_base.specs.declared.names.ClientNo.{ClientNo}
use Rattle.packet_frame.specs.FramerState.{FramerState, past}
use Rattle.packet_frame.specs.Packets.{Framed}
use Rattle.handshake.specs.declared.response.Response.{Response}
use Rattle.client_side.specs.declared.stage.Stage.{Stage}
use Rattle.client_side.specs.declared.stage.Stage.TheVariants as stage
use Rattle.client_side.specs.Login.{greeting_said, login_limit}

-- commands come once the login is done
abbrev pub is_in : Stage → Bool
is_in stage.Commands = true
is_in _ = false

-- the limit of the messages that come now
abbrev pub limit_at : (is_in : Bool) → (limit : ℕ) → ℕ
limit_at is_in limit = if is_in then limit else login_limit limit

-- its number and its salt, what was read with the limit of its commands, how far its login is, how many commands arrived, and what is to be written
pub record ClientState : Type 0 where
  pub number : ClientNo
  pub salt : List ℕ
  pub framer : FramerState
  pub stage : Stage
  pub arrived : ℕ
  pub outgoing : List ℕ

-- a framer that has found nothing
abbrev pub reading : (limit : ℕ) → List ℕ → FramerState
reading limit kept = record { limit = limit; kept = kept; found = None; fault = None }

-- one to which these bytes are to be written first
abbrev pub told_first : ClientNo → (salt : List ℕ) → (limit : ℕ) → (outgoing : List ℕ) → ClientState
told_first number salt limit outgoing = record { number = number; salt = salt; framer = reading limit []; stage = stage.Response; arrived = 0; outgoing = outgoing }

abbrev pub new_client : ClientNo → (salt : List ℕ) → (limit : ℕ) → (version : List ℕ) → ClientState
new_client number salt limit version = told_first number salt limit (greeting_said number.0 salt version)

abbrev pub fed : ClientState → List ℕ → ClientState
fed client bytes = record client { framer = record client.framer { kept = client.framer.kept ++ bytes } }

-- what no step changes
abbrev pub IsSame : ClientState → ClientState → Type 0
IsSame old new = (new.number ≡ old.number) × (new.salt ≡ old.salt) × (new.framer.limit ≡ old.framer.limit) × (new.arrived ≡ old.arrived)

-- a count that stands still at its type's end
abbrev pub counted : ℕ → ℕ
counted n = if nat_lt n 18446744073709551615 then n + 1 else n

-- the framer without the message that it found
abbrev pub past_message : Framed → FramerState → FramerState
past_message message framer = past framer

-- What was found: a login, or a command.

abbrev pub HasFound : Stage → Option Framed → Type 0
HasFound (stage.Login response first) found = Unit {0}
HasFound _ found = IsSome found

abbrev pub IsPast : Option Framed → ClientState → ClientState → Type 0
IsPast None old new = Unit {0}
IsPast (Some message) old new = new ≡ record old { framer = past_message message old.framer; arrived = counted old.arrived }

abbrev pub IsDone : Stage → ClientState → ClientState → Type 0
IsDone (stage.Login response first) old new = new ≡ record old { stage = stage.Commands }
IsDone _ old new = IsPast old.framer.found old new

-- who the client says it is
abbrev pub login_of : Stage → Option Response
login_of (stage.Login response first) = Some response
login_of _ = None
