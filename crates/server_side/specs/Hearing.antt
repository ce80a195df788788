-- What is heard on a link to a server, and what is left of it.
use Rattle.std.specs.Prelude.{◌≡◌, ℕ, zero, suc, ◌+◌, ◌-◌, Bool, nat_eq, bytes_eq, List, ◌++◌, length, take, Option, Some, None, Result, Ok, Err, if◌then◌else◌}
use Rattle.packet_frame.specs.FramerState.{FramerState, look, seen, past}
use Rattle.packet_frame.specs.Packets.{Framed, Found}
use Rattle.packet_frame.specs.Packets.Found.{Nothing, Whole, Faulty}
use Rattle.reply_text.specs.Replies.{is_lone}
use Rattle.reply_track.specs.declared.place.State.{State}
use Rattle.reply_track.specs.Runs.{Ending, run, renumbered}
use Rattle.reply_track.specs.Runs.Ending.{Going, Ended, Failed}
use Rattle.handshake.specs.declared.fault.HandFault.{HandFault}
use Rattle.handshake.specs.declared.greeting.Greeting.{Greeting}
use Rattle.handshake.specs.declared.switch.Switch.{Switch}
use Rattle.handshake.specs.Greeting.{greeting_of}
use Rattle.handshake.specs.Switch.{native_password, switch_of}
use Rattle.server_side.specs.declared.command.Command.{Command}
use Rattle.server_side.specs.declared.fault.BackendFault.{BackendFault}
use Rattle.server_side.specs.declared.fault.BackendFault.TheVariants.{BadBytes, Plugin, Denied, OutOfMemory}
use Rattle.server_side.specs.declared.hear.Heard.{Heard}
use Rattle.server_side.specs.declared.hear.Heard.TheVariants.{Quiet, LoggedIn, Part, Whole as WholeReply}
use Rattle.server_side.specs.declared.stage.Stage.{Stage}
use Rattle.server_side.specs.declared.stage.Stage.TheVariants as stage
use Rattle.server_side.specs.Login.{response_said, answer_said, lacks_found_rows, denied, asks_switch}
use Rattle.server_side.specs.Backend.{BackendState}

-- what was heard, with the link behind it; or why it is of no use any more
pub data Got : Type 0 where
  Hears : Heard → BackendState → Got
  Fails : BackendFault → Got

-- a call answered so, unless memory ran out
abbrev pub Tells : Result Heard BackendFault → BackendState → Got → Type 0
Tells (Ok heard) new (Hears what left) = (heard ≡ what) × (new ≡ left)
Tells (Err OutOfMemory) new got = Unit {0}
Tells (Err fault) new (Fails why) = fault ≡ why
Tells (Ok heard) new (Fails why) = ⊥
Tells (Err fault) new (Hears what left) = ⊥

-- and nothing more is heard behind a fault
abbrev pub Gives : Result Heard BackendFault → BackendState → Got → Type 0
Gives (Ok heard) new (Hears what left) = (heard ≡ what) × (new ≡ left)
Gives (Err OutOfMemory) new got = Unit {0}
Gives (Err fault) new (Fails why) = (fault ≡ why) × (new.stage ≡ stage.Lost)
Gives (Ok heard) new (Fails why) = ⊥
Gives (Err fault) new (Hears what left) = ⊥

abbrev pub bad : Got
bad = Fails (BadBytes 0)

-- the framer without the message that it found
abbrev pub past_message : Framed → FramerState → FramerState
past_message message framer = past framer

abbrev pub behind : Framed → BackendState → BackendState
behind message backend = record backend { framer = past_message message backend.framer }

-- nothing is whole
abbrev pub nothing : Heard → BackendState → Got
nothing heard backend = Hears heard (record backend { framer = seen backend.framer Nothing })

-- The login.

-- what goes on with the message that is found, where it is whole
abbrev pub found_by : (read : Framed → BackendState → Got) → BackendState → Found → Got
found_by read backend Nothing = nothing Quiet backend
found_by read backend (Whole message rest) = read message (behind message backend)
found_by read backend (Faulty fault) = bad

-- an OK logs the router in, whatever stands behind it
abbrev pub accepted_by : (accepted : Bool) → BackendState → Got
accepted_by accepted backend = if accepted then Hears LoggedIn (record backend { stage = stage.In }) else bad

abbrev pub end_told : Option ℕ → Framed → BackendState → Got
end_told (Some code) message backend = Fails (Denied code)
end_told None message backend = accepted_by (is_lone message.payload) backend

-- the message is the login's end, and the link is behind it
abbrev pub end_read : Framed → BackendState → Got
end_read message backend = end_told (denied message.payload) message backend

abbrev pub end_found : BackendState → Found → Got
end_found backend found = found_by end_read backend found

-- the router says its bare answer
abbrev pub answered : Switch → BackendState → BackendState
answered switch backend = record backend { own = backend.own ++ answer_said backend.account switch.salt; stage = stage.Switched }

abbrev pub switched : Switch → BackendState → Got
switched switch backend = if bytes_eq switch.plugin native_password then end_found (answered switch backend) (look 4 backend.framer) else Fails (Plugin switch.plugin)

abbrev pub switch_told : Result Switch HandFault → BackendState → Got
switch_told (Err fault) backend = bad
switch_told (Ok switch) backend = switched switch backend

-- the message is what the server says to the response, and the link is behind it
abbrev pub welcome_read : Framed → BackendState → Got
welcome_read message backend = if asks_switch message.payload then switch_told (switch_of message.payload) backend else end_read message backend

abbrev pub welcome_found : BackendState → Found → Got
welcome_found backend found = found_by welcome_read backend found

-- the router says its response
abbrev pub responded : Greeting → BackendState → BackendState
responded greeting backend = record backend { own = backend.own ++ response_said backend.account greeting; stage = stage.Welcome }

abbrev pub greeted : Greeting → BackendState → Got
greeted greeting backend = if lacks_found_rows backend.account.found_rows greeting.capabilities then bad else welcome_found (responded greeting backend) (look 2 backend.framer)

abbrev pub greeting_told : Result Greeting HandFault → BackendState → Got
greeting_told (Err fault) backend = bad
greeting_told (Ok greeting) backend = greeted greeting backend

abbrev pub greeting_or_not : Option ℕ → Framed → BackendState → Got
greeting_or_not (Some code) message backend = Fails (Denied code)
greeting_or_not None message backend = greeting_told (greeting_of message.payload) backend

-- the message is the greeting, and the link is behind it
abbrev pub greeting_read : Framed → BackendState → Got
greeting_read message backend = greeting_or_not (denied message.payload) message backend

abbrev pub greeting_found : BackendState → Found → Got
greeting_found backend found = found_by greeting_read backend found

-- The reply.

-- the reply goes on, and this was read of it
abbrev pub going : (size : ℕ) → (made : List ℕ) → Command → State → BackendState → Got
going size made command state backend = Hears (Part size) (record backend { command = Some (record command { tracker = record { state = state } }); reply = backend.reply ++ made })

-- the reply is whole with the first `used` bytes of the piece
abbrev pub replied : (used : ℕ) → (made : List ℕ) → BackendState → Got
replied used made backend = Hears (WholeReply used) (record backend { command = None; reply = backend.reply ++ take used made })

-- where it stands behind the piece; a bad byte's place counts in the reply
abbrev pub reply_by : (size : ℕ) → (made : List ℕ) → Command → BackendState → Ending → Got
reply_by size made command backend (Going state) = going size made command state backend
reply_by size made command backend (Ended end rest) = replied (size - length rest) made backend
reply_by size made command backend (Failed behind) = Fails (BadBytes (length backend.reply + (size - length behind)))

abbrev pub reply_read : (piece : List ℕ) → Command → BackendState → Got
reply_read piece command backend = reply_by (length piece) (renumbered command.tracker.state piece) command backend (run command.tracker.state piece)

-- it is due once a byte of the command is written
abbrev pub reply_begun : (sent : ℕ) → (piece : List ℕ) → Command → BackendState → Got
reply_begun zero piece command backend = bad
reply_begun (suc sent) piece command backend = reply_read piece command backend

abbrev pub reply_due : Option Command → (piece : List ℕ) → BackendState → Got
reply_due None piece backend = bad
reply_due (Some command) piece backend = reply_begun command.sent piece command backend

-- Both.

-- the login keeps what it reads, and a reply is read as it comes
abbrev pub fed : BackendState → List ℕ → BackendState
fed backend piece = record backend { framer = record backend.framer { kept = backend.framer.kept ++ piece } }

-- what a piece tells of the login
abbrev pub enters : Stage → (piece : List ℕ) → BackendState → Got
enters stage.Greeting piece backend = greeting_found (fed backend piece) (look 0 (fed backend piece).framer)
enters stage.Welcome piece backend = welcome_found (fed backend piece) (look 2 (fed backend piece).framer)
enters stage.Switched piece backend = end_found (fed backend piece) (look 4 (fed backend piece).framer)
enters stage.In piece backend = bad
enters stage.Lost piece backend = bad

abbrev pub entered_of : List ℕ → BackendState → Got
entered_of piece backend = enters backend.stage piece backend

-- bytes behind the login's end are bad
abbrev pub alone_by : Heard → BackendState → Got
alone_by LoggedIn backend = if nat_eq (length backend.framer.kept) 0 then Hears LoggedIn backend else bad
alone_by heard backend = Hears heard backend

abbrev pub alone : Got → Got
alone (Hears heard backend) = alone_by heard backend
alone (Fails fault) = Fails fault

abbrev pub hears : Stage → (piece : List ℕ) → BackendState → Got
hears stage.Greeting piece backend = alone (enters stage.Greeting piece backend)
hears stage.Welcome piece backend = alone (enters stage.Welcome piece backend)
hears stage.Switched piece backend = alone (enters stage.Switched piece backend)
hears stage.In piece backend = reply_due backend.command piece backend
hears stage.Lost piece backend = bad

-- what a piece tells
abbrev pub got_of : List ℕ → BackendState → Got
got_of piece backend = hears backend.stage piece backend
