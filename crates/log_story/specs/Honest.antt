-- An honest log: a link's command is run as its bytes spell it, and what is read there is the answer of the run, as far as it
-- is read. What of it the router keeps to, and what is assumed of servers, stands in Said and Assumed.
use Rattle.std.specs.Prelude.{◌≡◌, ◌⊎◌, ℕ, true, false, All, List, [], ◌∷◌, ◌++◌, drop, take, Option, Some, None}
use Rattle.mx_base.specs.declared.names.LinkId.{LinkId}
use Rattle.mx_wire.specs.Log.{Log}
use Rattle.mx_wire.specs.declared.entry.Entry.{Entry}
use Rattle.mx_wire.specs.declared.entry.Entry.TheVariants.{Got, Wrote, Exec}
use Rattle.packet_frame.specs.Packets.{Framed, spelling, spellings}
use Rattle.reply_track.specs.declared.reply.ReplyEnd.{ReplyEnd}
use Rattle.reply_track.specs.Grammar.{IsReply, OkEnds, has_more}
use Rattle.server_side.specs.Login.{LogsIn, opening}
use Rattle.server_rule.specs.Servers.{Step}
use Rattle.private_model.specs.Commands.{Args, Command, Quit, Reply, Run, runs}
use Rattle.private_model.specs.Honest.{IsTrueOf}
use Rattle.private_model.specs.Story.{Question, Ran, command_of, for_statement}
use Rattle.private_model.specs.View.{Answered, Asked, Quiet, Setup}
use Rattle.private_model.specs.Worlds.{Real, real_after}
use Rattle.log_story.specs.Executes.{args_in, is_for}
use Rattle.log_story.specs.Plan.{Closes, Plan, Resets, StepText, com_execute, com_long_data, step_payload, text_payload}
use Rattle.log_story.specs.Tale.{Tale, Wire, first_tale, is_reset_step, is_to_server, link_in, view_of}
use Rattle.log_story.specs.Servers.{kind_by, may_begin, reply_id, with_run, written_in}
use Rattle.log_story.specs.Telling.{tale_step, wire_with}

pub record IsFront (front whole : List ℕ) : Type 0 where
  pub rest : List ℕ
  pub is : front ++ rest ≡ whole

-- An execute, and before it nothing but its own long data, are whole; it names the number that the server gave, opens no cursor,
-- is for one iteration, and has these arguments, as a statement with some number of parameters.
pub record IsExecute (number : Option ℕ) (args : Args) (written : List ℕ) : Type 0 where
  pub there : ℕ
  pub named : number ≡ Some there
  pub long_data : List Framed
  pub message : Framed
  pub messages : (written_in written).messages ≡ long_data ++ message ∷ []
  pub own_data : All (λ (before : Framed). is_for com_long_data there before.payload ≡ true) long_data
  pub whole : (written_in written).rest ≡ []
  pub executes : is_for com_execute there message.payload ≡ true
  pub plain : take 5 (drop 5 message.payload) ≡ 0 ∷ 1 ∷ 0 ∷ 0 ∷ 0 ∷ []
  pub params : ℕ
  pub arguments : args_in params there (λ i. false) 0 long_data message.payload ≡ args

-- the bytes are this command, whole
abbrev pub IsWritten : Command → (number : Option ℕ) → (written : List ℕ) → Type 0
IsWritten (Run text schema settings args) number written = IsExecute number args written
IsWritten command number written = written ≡ spelling 0 (text_payload command)

abbrev pub number_for : Question → (live : ℕ → Option ℕ) → Option ℕ
number_for question live = for_statement question (λ n due. live due.key) None

abbrev pub real_of : Setup → Step → Tale → Real
real_of setup server tale = real_after setup (runs server) tale.story

-- A run is of what was written, on a link that isn't dropped.
pub record IsTrueRun (setup : Setup) (server : Step) (tale : Tale) (link : LinkId) : Type 0 where
  pub written : (question : Question) → (link_in setup tale link).stage ≡ Asked question
      → IsWritten (command_of question) (number_for question (link_in setup tale link).live) (tale.wires link).written
  pub true_run : IsTrueOf (runs server) (view_of setup tale) (real_of setup server tale) (Ran link)

-- so it is where the log's mark says so, of a QUIT too
pub record IsTrueExec (setup : Setup) (server : Step) (tale : Tale) (link : LinkId) : Type 0 where
  pub runs : (tale.wires link).quits ≡ false → IsTrueRun setup server tale link
  pub quits : (tale.wires link).quits ≡ true → (tale.wires link).written ≡ spelling 0 (text_payload Quit)

-- An answer is a reply of the protocol, and the bytes that are read are a front of its spelling.
abbrev pub spelled : Wire → Reply → List ℕ
spelled wire reply = spellings (reply_id wire) reply.payloads

pub record IsTrueReply (wire : Wire) (question : Question) (answer : Reply) : Type 0 where
  pub front : IsFront wire.unread (spelled wire answer)
  pub end : ReplyEnd
  pub is : IsReply (kind_by (command_of question)) answer.payloads end

-- so it is where bytes are read, before a reply is made of them; and none are read but an answer
pub record IsTrueRead (setup : Setup) (server : Step) (link : LinkId) (wire : Wire) (tale : Tale) : Type 0 where
  pub ran : (question : Question) → (link_in setup tale link).stage ≡ Asked question → IsTrueRun setup server tale link
  pub question : Question
  pub answered : (link_in setup (with_run setup link tale) link).stage ≡ Answered question
  pub reply : IsTrueReply wire question ((real_of setup server (with_run setup link tale)).peers link).answer

-- The router logs in as the plan says, and behind the OK that ends its login nothing is read before a command is sent.
pub record IsTrueLogin (plan : Plan) (link : LinkId) (wire : Wire) : Type 0 where
  pub said : (said rest : List ℕ) → opening (plan.logins link) wire.unread ≡ LogsIn said rest → wire.written ≡ said
  pub ends : (said rest : List ℕ) → opening (plan.logins link) wire.unread ≡ LogsIn said rest → rest ≡ []

-- What was written as a STMT_CLOSE or a STMT_RESET is one; a STMT_RESET is answered OK.

abbrev pub IsStep : Option StepText → (written : List ℕ) → Type 0
IsStep (Some (Closes number)) written = written ≡ spelling 0 (step_payload (Closes number))
IsStep (Some (Resets number)) written = written ≡ spelling 0 (step_payload (Resets number))
IsStep _ written = Unit {0}

pub record IsTrueReset (wire : Wire) : Type 0 where
  pub written : IsStep wire.step wire.written
  pub answer : List ℕ
  pub end : ReplyEnd
  pub ok : OkEnds answer end
  pub last : has_more end.flags ≡ false
  pub front : IsFront wire.unread (spelling (reply_id wire) answer)

-- A server that dropped a link may say there why (ERR 4031), where nothing that it was asked is unread. It lies unread.
pub record IsFarewell (setup : Setup) (server : Step) (tale : Tale) (link : LinkId) : Type 0 where
  pub dropped : ((real_of setup server tale).peers link).alive ≡ false
  pub quiet : (link_in setup tale link).stage ≡ Quiet

pub record IsTrueGot (setup : Setup) (plan : Plan) (server : Step) (tale : Tale) (link : LinkId) (wire : Wire) : Type 0 where
  pub login : (tale.wires link).entered ≡ false → IsTrueLogin plan link wire
  pub read : (tale.wires link).entered ≡ true → is_reset_step wire.step ≡ false → IsFarewell setup server tale link ⊎ IsTrueRead setup server link wire tale
  pub reset : (tale.wires link).entered ≡ true → is_reset_step wire.step ≡ true → IsFarewell setup server tale link ⊎ IsTrueReset wire

abbrev pub IsTrue : Setup → Plan → Step → Tale → Entry → Type 0
IsTrue setup plan server tale (Exec link) = (tale.wires link).entered ≡ true → IsTrueExec setup server tale link
IsTrue setup plan server tale (Got link bytes) = is_to_server tale link ≡ true → IsTrueGot setup plan server tale link (wire_with tale link bytes)
IsTrue setup plan server tale (Wrote link tag bytes) =
    is_to_server tale link ≡ true → may_begin setup link (tale.wires link) tale ≡ true → IsStep (tale.wires link).step (tale.wires link).written
IsTrue setup plan server tale _ = Unit {0}

abbrev pub IsHonestFrom : Setup → Plan → Step → Tale → Log → Type 0
IsHonestFrom setup plan server tale [] = Unit {0}
IsHonestFrom setup plan server tale (e ∷ log) = IsTrue setup plan server tale e × IsHonestFrom setup plan server (tale_step setup plan tale e) log

-- each entry of the log is true
abbrev pub IsHonestLog : Setup → Plan → Step → Log → Type 0
IsHonestLog setup plan server log = IsHonestFrom setup plan server first_tale log
