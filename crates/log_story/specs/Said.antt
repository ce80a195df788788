-- What the router writes on links to servers: the bytes of each question are a front of its one spelling.
use Rattle.std.specs.Prelude.{◌≡◌, ℕ, Bool, true, false, List, [], ◌∷◌, ◌++◌, Option, Some}
use Rattle.mx_wire.specs.Log.{Log}
use Rattle.mx_wire.specs.declared.entry.Entry.{Entry}
use Rattle.mx_wire.specs.declared.entry.Entry.TheVariants.{Wrote}
use Rattle.packet_frame.specs.Packets.{spelling}
use Rattle.server_side.specs.Account.{Account}
use Rattle.server_side.specs.Login.{opening, said_of}
use Rattle.private_model.specs.Commands.{Command, Quit}
use Rattle.private_model.specs.Names.{LinkId}
use Rattle.private_model.specs.Story.{command_of}
use Rattle.private_model.specs.View.{Answered, Asked, Link, Quiet, Setup, Stage}
use Rattle.log_story.specs.Honest.{IsFront, IsStep, IsWritten, number_for}
use Rattle.log_story.specs.Plan.{Closes, Plan, Resets, StepText, step_payload, text_payload}
use Rattle.log_story.specs.Servers.{may_begin}
use Rattle.log_story.specs.Tale.{Tale, Wire, first_tale, is_to_server, link_in}
use Rattle.log_story.specs.Telling.{tale_step}

-- these are the first bytes of a command
pub record Begins (command : Command) (number : Option ℕ) (bytes : List ℕ) : Type 0 where
  pub more : List ℕ
  pub all : IsWritten command number (bytes ++ more)

-- What was written since a question, a STMT_CLOSE, a STMT_RESET or the QUIT began; where none stands, nothing was.

abbrev pub IsQuestion : Stage → (live : ℕ → Option ℕ) → (written : List ℕ) → Type 0
IsQuestion Quiet live written = Unit {0}
IsQuestion (Asked question) live written = Begins (command_of question) (number_for question live) written
IsQuestion (Answered question) live written = Begins (command_of question) (number_for question live) written

abbrev pub IsStepText : Option StepText → (written : List ℕ) → Type 0
IsStepText (Some (Closes number)) written = IsFront written (spelling 0 (step_payload (Closes number)))
IsStepText (Some (Resets number)) written = IsFront written (spelling 0 (step_payload (Resets number)))
IsStepText _ written = Unit {0}

abbrev pub IsNothing : Stage → Option StepText → (written : List ℕ) → Type 0
IsNothing Quiet (Some (Closes number)) written = Unit {0}
IsNothing Quiet (Some (Resets number)) written = Unit {0}
IsNothing Quiet _ written = written ≡ []
IsNothing _ step written = Unit {0}

pub record IsSaidBehind (wire : Wire) (link : Link) : Type 0 where
  pub question : IsQuestion link.stage link.live wire.written
  pub step : IsStepText wire.step wire.written
  pub quit : wire.quits ≡ true → IsFront wire.written (spelling 0 (text_payload Quit))
  pub nothing : wire.quits ≡ false → IsNothing link.stage wire.step wire.written

-- before the login is through, what there is to say in it
abbrev pub IsSaid : (entered : Bool) → Account → Wire → Link → Type 0
IsSaid false login wire link = IsFront wire.written (said_of (opening login wire.unread))
IsSaid true login wire link = IsSaidBehind wire link

abbrev pub SaysThere : Setup → Plan → Tale → LinkId → Type 0
SaysThere setup plan tale link = IsSaid (tale.wires link).entered (plan.logins link) (tale.wires link) (link_in setup tale link)

-- on each link to a server
abbrev pub SaysSo : Setup → Plan → Tale → Type 0
SaysSo setup plan tale = (link : LinkId) → is_to_server tale link ≡ true → SaysThere setup plan tale link

-- a STMT_CLOSE or a STMT_RESET is whole before anything else begins
abbrev pub ClosesFirst : Setup → Tale → Entry → Type 0
ClosesFirst setup tale (Wrote link tag bytes) =
    is_to_server tale link ≡ true → may_begin setup link (tale.wires link) tale ≡ true → IsStep (tale.wires link).step (tale.wires link).written
ClosesFirst setup tale _ = Unit {0}

abbrev pub SaysFrom : Setup → Plan → Tale → Log → Type 0
SaysFrom setup plan tale [] = SaysSo setup plan tale
SaysFrom setup plan tale (e ∷ log) = SaysSo setup plan tale × ClosesFirst setup tale e × SaysFrom setup plan (tale_step setup plan tale e) log

-- at each moment of the log
abbrev pub IsSaidLog : Setup → Plan → Log → Type 0
IsSaidLog setup plan log = SaysFrom setup plan first_tale log
