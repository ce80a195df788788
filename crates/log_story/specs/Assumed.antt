-- What is assumed of servers, told of a log's bytes, without what the router says there: with what the router keeps to (Said) it is
-- that the log is honest.
use Rattle.std.specs.Prelude.{◌≡◌, ◌⊎◌, ℕ, true, false, List, [], ◌∷◌, ◌++◌, Option, Some}
use Rattle.mx_base.specs.declared.names.LinkId.{LinkId}
use Rattle.mx_wire.specs.Log.{Log}
use Rattle.mx_wire.specs.declared.entry.Entry.{Entry}
use Rattle.mx_wire.specs.declared.entry.Entry.TheVariants.{Got, Exec}
use Rattle.packet_frame.specs.Packets.{spelling}
use Rattle.reply_track.specs.declared.reply.ReplyEnd.{ReplyEnd}
use Rattle.reply_track.specs.Grammar.{OkEnds, has_more}
use Rattle.server_side.specs.Login.{LogsIn, opening}
use Rattle.server_rule.specs.Servers.{Step}
use Rattle.private_model.specs.Commands.{Command, Quit, runs}
use Rattle.private_model.specs.Honest.{IsTrueOf}
use Rattle.private_model.specs.Story.{Question, Ran, command_of}
use Rattle.private_model.specs.View.{Answered, Asked, Setup}
use Rattle.log_story.specs.Honest.{IsFarewell, IsFront, IsTrueReply, number_for, real_of}
use Rattle.log_story.specs.Plan.{Closes, Plan, Resets, StepText, step_payload, text_payload}
use Rattle.log_story.specs.Servers.{reply_id, with_run}
use Rattle.log_story.specs.Tale.{Tale, Wire, first_tale, is_reset_step, is_to_server, link_in, view_of}
use Rattle.log_story.specs.Telling.{tale_step, wire_with}
use Rattle.log_story.specs.Said.{Begins}

-- A server runs and answers what is written whole: nothing of it is left to write.

abbrev pub IsWhole : Command → (number : Option ℕ) → (written : List ℕ) → Type 0
IsWhole command number written = (more : List ℕ) → Begins command number (written ++ more) → more ≡ []

abbrev pub IsAllOf : (whole written : List ℕ) → Type 0
IsAllOf whole written = (more : List ℕ) → IsFront (written ++ more) whole → more ≡ []

-- a run is of a whole command, on a link that isn't dropped, and the number that it gives to what it prepares is unused there
pub record IsRun (setup : Setup) (server : Step) (tale : Tale) (link : LinkId) : Type 0 where
  pub whole : (question : Question) → (link_in setup tale link).stage ≡ Asked question
      → IsWhole (command_of question) (number_for question (link_in setup tale link).live) (tale.wires link).written
  pub true_run : IsTrueOf (runs server) (view_of setup tale) (real_of setup server tale) (Ran link)

pub record IsExec (setup : Setup) (server : Step) (tale : Tale) (link : LinkId) : Type 0 where
  pub runs : (tale.wires link).quits ≡ false → IsRun setup server tale link
  pub quits : (tale.wires link).quits ≡ true → IsAllOf (spelling 0 (text_payload Quit)) (tale.wires link).written

-- what is read is a front of its answer, and an answer is a reply of the protocol
pub record IsReply (setup : Setup) (server : Step) (link : LinkId) (wire : Wire) (tale : Tale) : Type 0 where
  pub ran : (question : Question) → (link_in setup tale link).stage ≡ Asked question → IsRun setup server tale link
  pub question : Question
  pub answered : (link_in setup (with_run setup link tale) link).stage ≡ Answered question
  pub reply : IsTrueReply wire question ((real_of setup server (with_run setup link tale)).peers link).answer

-- it lets the router in once that said all that there is to say, and says nothing behind it
pub record IsWelcome (plan : Plan) (link : LinkId) (wire : Wire) : Type 0 where
  pub said : (said rest : List ℕ) → opening (plan.logins link) wire.unread ≡ LogsIn said rest → IsAllOf said wire.written
  pub ends : (said rest : List ℕ) → opening (plan.logins link) wire.unread ≡ LogsIn said rest → rest ≡ []

-- a whole STMT_RESET is answered OK

abbrev pub IsStepWhole : Option StepText → (written : List ℕ) → Type 0
IsStepWhole (Some (Closes number)) written = IsAllOf (spelling 0 (step_payload (Closes number))) written
IsStepWhole (Some (Resets number)) written = IsAllOf (spelling 0 (step_payload (Resets number))) written
IsStepWhole _ written = Unit {0}

pub record IsResetReply (wire : Wire) : Type 0 where
  pub whole : IsStepWhole wire.step wire.written
  pub answer : List ℕ
  pub end : ReplyEnd
  pub ok : OkEnds answer end
  pub last : has_more end.flags ≡ false
  pub front : IsFront wire.unread (spelling (reply_id wire) answer)

pub record IsHeard (setup : Setup) (plan : Plan) (server : Step) (tale : Tale) (link : LinkId) (wire : Wire) : Type 0 where
  pub login : (tale.wires link).entered ≡ false → IsWelcome plan link wire
  pub read : (tale.wires link).entered ≡ true → is_reset_step wire.step ≡ false → IsFarewell setup server tale link ⊎ IsReply setup server link wire tale
  pub reset : (tale.wires link).entered ≡ true → is_reset_step wire.step ≡ true → IsFarewell setup server tale link ⊎ IsResetReply wire

-- a mark stands on a link to a server
pub record IsMark (setup : Setup) (server : Step) (tale : Tale) (link : LinkId) : Type 0 where
  pub there : is_to_server tale link ≡ true
  pub runs : (tale.wires link).entered ≡ true → IsExec setup server tale link

abbrev pub Keeps : Setup → Plan → Step → Tale → Entry → Type 0
Keeps setup plan server tale (Exec link) = IsMark setup server tale link
Keeps setup plan server tale (Got link bytes) = is_to_server tale link ≡ true → IsHeard setup plan server tale link (wire_with tale link bytes)
Keeps setup plan server tale _ = Unit {0}

abbrev pub KeepFrom : Setup → Plan → Step → Tale → Log → Type 0
KeepFrom setup plan server tale [] = Unit {0}
KeepFrom setup plan server tale (e ∷ log) = Keeps setup plan server tale e × KeepFrom setup plan server (tale_step setup plan tale e) log

-- at each entry of the log
abbrev pub AreHonest : Setup → Plan → Step → Log → Type 0
AreHonest setup plan server log = KeepFrom setup plan server first_tale log
