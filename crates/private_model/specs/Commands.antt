-- What the router asks of a server, and what comes back.
use Rattle.std.specs.Prelude.{◌<◌, ◌^◌, ℕ, Bool, true, false, not, if◌then◌else◌, List, Option, Some, None}
use Rattle.std.specs.Option.{option_or}
use Rattle.session_state.specs.Endings as ending
use Rattle.pin_classifier.specs.declared.class.Locking.TheVariants as locking
use Rattle.pin_classifier.specs.declared.class.Shape.TheVariants as shape
use Rattle.server_rule.specs.declared.command.Cmd.TheVariants as cmd
use Rattle.server_rule.specs.Servers as server
use Rattle.server_rule.specs.Classes as classes
use Rattle.server_rule.specs.Replies.{reply_end, one_number}
use Rattle.server_rule.specs.Texts.{read_id_text, set_id_text}
use Rattle.session_state.specs.InsertIds.{id_after_text, id_prepared}
use Rattle.pin_classifier.specs.declared.class.Class.{Class}
use Rattle.server_rule.specs.Classes.{Reads}
use Rattle.server_rule.specs.Servers.{fresh}
use Rattle.server_rule.specs.declared.command.Cmd.{Cmd}
pub use Rattle.server_rule.specs.declared.command.Reply.{Reply}
use Rattle.server_rule.specs.declared.session.Capabilities.{Capabilities}
use Rattle.server_rule.specs.declared.session.Session.{Session}
use Rattle.session_state.specs.Pins.{pin_answered, pin_prepared}
use Rattle.session_state.specs.declared.pin.Pin.{Pin}
use Rattle.session_state.specs.declared.reply_end.ReplyEnd.{ReplyEnd}
use Rattle.session_vars.specs.declared.change.SlotValue.{SlotValue}
use Rattle.session_vars.specs.declared.long_part.LongPart.{LongPart}

-- the user of a session, and what its login asked for
pub record Account : Type 0 where
  pub user : List ℕ
  pub capabilities : Capabilities

abbrev pub fresh_of : Account → (schema : List ℕ) → Session
fresh_of account schema = fresh account.user account.capabilities schema

-- what an execute is given: the types last bound, which parameters are NULL, their values, and long data
pub record Args : Type 0 where
  pub types : Option (List ℕ)
  pub nulls : List ℕ
  pub values : List ℕ
  pub long : List LongPart

-- a number of 64 bits
pub record Number : Type 0 where
  pub value : ℕ
  pub fits : value < 2 ^ 64

-- A Run is of a prepared text, with the schema and the settings of its preparation. SetId is the text that sets the insert
-- id, ReadId the one that reads it.
pub data Command : Type 0 where
  Query : (text : List ℕ) → Command
  InitDb : (schema : List ℕ) → Command
  FieldList : (rest : List ℕ) → Command
  SetId : Number → Command
  ReadId : Command
  Prepare : (text : List ℕ) → Command
  Run : (text schema : List ℕ) → (settings : List SlotValue) → Args → Command
  Reset : Command
  Quit : Command

-- as a server gets it
abbrev pub cmd_of : Command → Cmd
cmd_of (Query text) = cmd.Query text
cmd_of (InitDb schema) = cmd.InitDb schema
cmd_of (FieldList rest) = cmd.FieldList rest
cmd_of (SetId n) = cmd.Query (set_id_text n.value)
cmd_of ReadId = cmd.Query read_id_text
cmd_of (Prepare text) = cmd.Prepare text
cmd_of (Run text schema settings args) = cmd.Run text schema settings args.types args.nulls args.values args.long
cmd_of Reset = cmd.Reset
cmd_of Quit = cmd.Close

abbrev pub is_prepare : Command → Bool
is_prepare command = classes.is_prepare (cmd_of command)

pub record Outcome : Type 0 where
  pub stored : List ℕ
  pub session : Session
  pub reply : Reply

abbrev pub Step : Type 0
Step = (stored : List ℕ) → Session → Command → Outcome

-- what a server makes of the router's commands
abbrev pub outcome_of : Command → server.Outcome → Outcome
outcome_of command outcome = record { stored = outcome.stored; session = outcome.session; reply = record { to_prepare = is_prepare command; payloads = outcome.reply } }

abbrev pub runs : server.Step → Step
runs step stored session command = outcome_of command (step stored session (cmd_of command))

-- How a reply ended.

abbrev pub end_of : Reply → ReplyEnd
end_of reply = reply_end reply.to_prepare reply.payloads

abbrev pub is_ok : Reply → Bool
is_ok reply = ending.is_ok (end_of reply)

abbrev pub is_err : Reply → Bool
is_err reply = ending.is_err (end_of reply)

-- a prepared statement stands
abbrev pub is_made : Reply → Bool
is_made reply = not (is_err reply)

-- the number that the server gave to what it prepared
abbrev pub number_in : Reply → ℕ
number_in reply = (end_of reply).server_number

-- The class of a command.

abbrev pub plain_class : Class
plain_class = record { deep = false; locks = locking.None; next_tx = false; savepoint = false; marks_id = false; reads_id = false; reads_diag = false; reads_found = false; keeps_diag = true; keeps_found = true; calc_rows = false; refusal = None; ends_tx = false; outlasts_reset = false; sets_id = false; shape = shape.Other }

-- to prepare a text does nothing of what it says; of a reset and an end nothing is known by their class
abbrev pub class_of : Reads → Command → Class
class_of reads (Query text) = reads.class text
class_of reads (Run text schema settings args) = reads.class text
class_of reads (InitDb schema) = record plain_class { shape = shape.Use schema }
class_of reads (FieldList rest) = plain_class
class_of reads (Prepare text) = plain_class
class_of reads (SetId n) = record plain_class { marks_id = true }
class_of reads ReadId = record plain_class { marks_id = true }
class_of reads _ = record plain_class { deep = true; marks_id = true; reads_diag = true; reads_found = true }

abbrev pub hides_of : Reads → Command → Bool
hides_of reads (Query text) = reads.hides_id text
hides_of reads (Run text schema settings args) = reads.hides_id text
hides_of reads _ = false

-- whether a statement marks the insert id: a STMT_PREPARE as its text
abbrev pub is_marked : Reads → Command → Bool
is_marked reads (Prepare text) = (reads.class text).marks_id
is_marked reads command = (class_of reads command).marks_id

-- The Pin after a reply to a statement.

abbrev pub pin_statement : Reads → Command → (multiplex : Option Bool) → Reply → Pin → Pin
pin_statement reads (Prepare text) multiplex reply pin =
    if is_err reply then pin_answered (reads.class text) multiplex (end_of reply) pin
    else pin_prepared (reads.class text) (end_of reply) pin
pin_statement reads command multiplex reply pin = pin_answered (class_of reads command) multiplex (end_of reply) pin

-- The insert id after a reply, where it is known.

abbrev pub id_after : Reads → Command → Reply → Option ℕ → Option ℕ
id_after reads (Prepare text) reply old = id_prepared (reads.class text) (end_of reply) old
id_after reads (SetId n) reply old = if is_ok reply then Some n.value else old
id_after reads ReadId reply old = if is_err reply then old else option_or (one_number reply.payloads) old
id_after reads Reset reply old = Some 0
id_after reads Quit reply old = None
id_after reads command reply old = id_after_text (class_of reads command) (hides_of reads command) (end_of reply) old
