-- What is read of a server at an entry of the log: a whole reply, or bytes that can't be.
use Rattle.std.specs.Prelude.{ℕ, ◌-◌, Bool, true, false, not, ◌&&◌, ◌||◌, is_some, List, length, take, if◌then◌else◌}
use Rattle.mx_wire.specs.declared.entry.Entry.{Entry}
use Rattle.mx_wire.specs.declared.entry.Entry.TheVariants.{Got}
use Rattle.reply_track.specs.Runs.{Ending, Going, Ended, Failed}
use Rattle.reply_track.specs.declared.reply.ReplyKind.TheVariants as kind
use Rattle.server_rule.specs.Replies.{one_number}
use Rattle.private_model.specs.Commands.{Reply, is_err, is_ok}
use Rattle.private_model.specs.Names.{LinkId}
use Rattle.private_model.specs.Story.{Capture, End, Own, Prep, Question, Statement, Sync, command_of}
use Rattle.private_model.specs.View.{Answered, Setup, Stage}
use Rattle.log_story.specs.Servers.{kind_by, read_as, reply_in, with_run}
use Rattle.log_story.specs.Tale.{Wire, is_reset_step, is_to_server, link_in}
use Rattle.log_story.specs.Telling.{wire_with}
use Rattle.router_promises.specs.Now.{Now, wire_now}

-- a whole reply, with what it answers and the bytes behind it
pub record Answer : Type 0 where
  pub question : Question
  pub reply : Reply
  pub behind : List ℕ

-- Nothing is whole; a reply is; or from this place of it no reply goes on.
pub data Reading : Type 0 where
  Part : Reading
  Whole : Answer → Reading
  Bad : (place : ℕ) → Reading

abbrev pub reading_by : Question → Wire → Ending → Reading
reading_by question wire (Going state) = Part
reading_by question wire (Ended end rest) =
    Whole (record {
      question = question;
      reply = reply_in wire question (take (length wire.unread - length rest) wire.unread);
      behind = rest;
    })
reading_by question wire (Failed rest) = Bad (length wire.unread - length rest)

-- bytes that nobody asked for can't be
abbrev pub reading_at : Wire → Stage → Reading
reading_at wire (Answered question) = reading_by question wire (read_as (kind_by (command_of question)) wire)
reading_at wire _ = Bad 0

-- the answer to a STMT_RESET
abbrev pub reset_reading : Wire → Ending → Reading
reset_reading wire (Failed rest) = Bad (length wire.unread - length rest)
reset_reading wire _ = Part

-- bytes are read behind a login
abbrev pub reading_there : Setup → Now → LinkId → List ℕ → Reading
reading_there setup now link bytes =
    let wire = wire_with now.tale link bytes in
    if is_reset_step wire.step then reset_reading wire (read_as kind.Command wire)
    else reading_at wire (link_in setup (with_run setup link now.tale) link).stage

abbrev pub is_read : Now → LinkId → Bool
is_read now link = is_to_server now.tale link && (wire_now now link).entered

abbrev pub reading_of : Setup → Now → Entry → Reading
reading_of setup now (Got link bytes) = if is_read now link then reading_there setup now link bytes else Part
reading_of setup now _ = Part

-- A whole reply that isn't as it should: one to a step in an OK or an ERR, to a reset in an OK, and to the question for an
-- insert id one number.

abbrev pub is_result : Reply → Bool
is_result reply = is_ok reply || is_err reply

abbrev pub is_number : Reply → Bool
is_number reply = not (is_err reply) && is_some (one_number reply.payloads)

abbrev pub is_amiss : Question → Reply → Bool
is_amiss (Statement n due) reply = false
is_amiss (Prep n key text) reply = false
is_amiss (Sync n command) reply = not (is_result reply)
is_amiss (Own command) reply = not (is_result reply)
is_amiss (End n) reply = not (is_ok reply)
is_amiss (Capture n) reply = not (is_number reply)

-- a step on its way to a statement
abbrev pub is_step : Question → Bool
is_step (Prep n key text) = true
is_step (Sync n command) = true
is_step (Own command) = true
is_step _ = false
