-- What a link to a server is to its callers.
use Rattle.std.specs.Prelude.{ℕ, Bool, false, not, nat_eq, zero, suc, ◌+◌, nat_lt, List, [], ◌∷◌, length, drop, Option, Some, None, if◌then◌else◌}
use Rattle.mx_base.specs.declared.tag.Tag.{Tag}
use Rattle.mx_base.specs.declared.tag.Tag.TheVariants.{Own}
use Rattle.packet_frame.specs.FramerState.{FramerState}
use Rattle.packet_frame.specs.Packets.{spelling}
use Rattle.reply_track.specs.Replying.{to_command}
use Rattle.reply_track.specs.Tracking.{started}
use Rattle.server_side.specs.Account.{Account}
use Rattle.server_side.specs.declared.command.Command.{Command}
use Rattle.mx_base.specs.Sent.{Sent}
use Rattle.server_side.specs.declared.stage.Stage.{Stage}
use Rattle.server_side.specs.declared.stage.Stage.TheVariants.{Greeting}
use Rattle.server_side.specs.Login.{most_payload}

-- who logs in, what was read of the login, how far that is, what is left of what the router says of its own, the command whose reply isn't whole
-- yet, and what was read of the reply, or the last one that was whole
pub record BackendState : Type 0 where
  pub account : Account
  pub framer : FramerState
  pub stage : Stage
  pub own : List ℕ
  pub command : Option Command
  pub reply : List ℕ

-- a framer that has found nothing
abbrev pub reading : List ℕ → FramerState
reading kept = record { limit = most_payload; kept = kept; found = None; fault = None }

abbrev pub new_backend : Account → BackendState
new_backend account = record { account = account; framer = reading []; stage = Greeting; own = []; command = None; reply = [] }

-- a command of which nothing is written and nothing of the reply is read, which is to have ids from `first` on
abbrev pub command_of : Tag → (packets : List ℕ) → (first : ℕ) → Command
command_of tag packets first = record { tag = tag; bytes = packets; sent = 0; first = first; tracker = record { state = started (to_command packets first) } }

abbrev pub commanded : Tag → List ℕ → (first : ℕ) → BackendState → BackendState
commanded tag payload first backend = record backend { command = Some (command_of tag (spelling 0 payload) first); reply = [] }

-- What is to be written.

abbrev pub left_of : Command → Option Sent
left_of command = if nat_lt command.sent (length command.bytes) then Some (record { tag = command.tag; bytes = drop command.sent command.bytes }) else None

abbrev pub command_left : Option Command → Option Sent
command_left None = None
command_left (Some command) = left_of command

abbrev pub left_by : (own : List ℕ) → Option Command → Option Sent
left_by [] command = command_left command
left_by (byte ∷ bytes) command = Some (record { tag = Own; bytes = byte ∷ bytes })

abbrev pub left : BackendState → Option Sent
left backend = left_by backend.own backend.command

-- so many of these bytes are written
abbrev pub command_taken : ℕ → Option Command → Option Command
command_taken n None = None
command_taken n (Some command) = Some (record command { sent = command.sent + n })

abbrev pub taken_by : ℕ → (own : List ℕ) → BackendState → BackendState
taken_by n [] backend = record backend { command = command_taken n backend.command }
taken_by n (byte ∷ bytes) backend = record backend { own = drop n (byte ∷ bytes) }

abbrev pub taken : ℕ → BackendState → BackendState
taken n backend = taken_by n backend.own backend

-- a command of which nothing was written is dropped
abbrev pub unless_begun : (sent : ℕ) → Command → Option Command
unless_begun zero command = None
unless_begun (suc sent) command = Some command

abbrev pub withdrawn_by : Option Command → Option Command
withdrawn_by None = None
withdrawn_by (Some command) = unless_begun command.sent command

abbrev pub withdrawn : BackendState → BackendState
withdrawn backend = record backend { command = withdrawn_by backend.command }

-- a byte of the command was written, or all were
abbrev pub is_begun : Option Command → Bool
is_begun None = false
is_begun (Some command) = not (nat_eq command.sent 0)

abbrev pub is_sent : Option Command → Bool
is_sent None = false
is_sent (Some command) = nat_eq command.sent (length command.bytes)
