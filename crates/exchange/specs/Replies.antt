-- The replies of a server, each at the place of its command, and how a link stands by them.
use Rattle.std.specs.Prelude.{ℕ, ◌-◌, Bool, ◌&&◌, if◌then◌else◌, List, [], ◌∷◌, length, take, drop, slice_get, Option, Some, None}
use Rattle.std.specs.List.{list_all}
use Rattle.mx_base.specs.declared.names.LinkId.{LinkId}
use Rattle.mx_base.specs.declared.tag.Tag.{Tag}
use Rattle.mx_wire.specs.Log.{Log}
use Rattle.packet_frame.specs.Packets.{spellings}
use Rattle.reply_track.specs.Runs.{Ending, Going, Ended, Failed}
use Rattle.reply_track.specs.declared.reply.ReplyKind.{ReplyKind}
use Rattle.reply_track.specs.Replying.{replied, payloads_in}
use Rattle.server_side.specs.Account.{Account}
use Rattle.server_side.specs.Login.{Opening, Goes, LogsIn, Fails}
use Rattle.client_session.specs.Errors.{bad_server_bytes, connection_lost}
use Rattle.exchange.specs.Logins.{is_empty, was_lost, login_on}
use Rattle.exchange.specs.Commands.{Command, is_whole, commands_on}

-- an answer is the payloads of messages, whose ids run on
abbrev pub Answer : Type 0
Answer = List (List ℕ)

abbrev pub spelt : (id : ℕ) → Answer → List ℕ
spelt id payloads = spellings id payloads

-- What the bytes behind a command begin with: a part of its reply, the whole reply and the bytes behind it, or bytes with which no reply goes
-- on, and the place of these.
pub data Heard : Type 0 where
  Partly : Heard
  Wholly : (reply : Answer) → (rest : List ℕ) → Heard
  Never : (place : ℕ) → Heard

-- the grammar of replies to a command
abbrev pub Grammar : Type 0
Grammar = Command → List ℕ → Heard

-- what the reply to a command is like: its kind, and the id of its first packet
pub record Form : Type 0 where
  pub kind : ReplyKind
  pub first : ℕ

-- what the replies to all commands are like, by what each is for
abbrev pub Forms : Type 0
Forms = Tag → Form

-- The replies: results, the last of which is the one that says that no other follows, or what COM_FIELD_LIST asks for. That this is what the
-- manual says is a law (Manual).
abbrev pub heard_by : (first : ℕ) → (bytes : List ℕ) → Ending → Heard
heard_by first bytes (Going state) = Partly
heard_by first bytes (Ended end rest) = Wholly (payloads_in first (take (length bytes - length rest) bytes)) rest
heard_by first bytes (Failed behind) = Never (length bytes - length behind)

abbrev pub heard_as : Form → List ℕ → Heard
heard_as form bytes = heard_by form.first bytes (replied form.kind form.first bytes)

abbrev pub command_reply : Forms → Grammar
command_reply forms command bytes = heard_as (forms command.tag) bytes

-- the whole replies in order, the bytes behind them, and the place of bad bytes there
pub record Replies : Type 0 where
  pub whole : List Answer
  pub rest : List ℕ
  pub bad : Option ℕ

abbrev pub with_reply : Answer → Replies → Replies
with_reply reply replies = record { whole = reply ∷ replies.whole; rest = replies.rest; bad = replies.bad }

abbrev pub cut : Heard → List ℕ → (List ℕ → Replies) → Replies
cut Partly bytes others = record { whole = []; rest = bytes; bad = None }
cut (Wholly reply rest) bytes others = with_reply reply (others rest)
cut (Never place) bytes others = record { whole = []; rest = bytes; bad = Some place }

-- bytes cut into the replies to these commands
abbrev pub replies_by : Grammar → List Command → List ℕ → Replies
replies_by grammar [] bytes = record { whole = []; rest = bytes; bad = None }
replies_by grammar (c ∷ commands) bytes = cut (grammar c bytes) bytes (replies_by grammar commands)

-- the bytes read of a link behind the login
abbrev pub rest_of : Opening → List ℕ
rest_of (Goes said) = []
rest_of (LogsIn said rest) = rest
rest_of (Fails said fault) = []

abbrev pub behind_login : Account → LinkId → Log → List ℕ
behind_login user link log = rest_of (login_on user link log)

abbrev pub replies_on : Forms → Account → LinkId → Log → Replies
replies_on forms user link log = replies_by (command_reply forms) (commands_on user link log) (behind_login user link log)

-- How a link stands: the login goes on; every command is whole and answered, and nothing stands behind; the last command is written in part,
-- and unanswered; it is whole, and its reply runs; or the link can't be used again: it was lost, its login failed, or bytes came that no
-- command asked for.
pub data Standing : Type 0 where
  Enters : Standing
  Clean : Standing
  Sends : Standing
  Runs : Standing
  Spoilt : Standing

abbrev pub stands_by : Option ℕ → (clean : Bool) → (unanswered : List Command) → Standing
stands_by (Some place) clean unanswered = Spoilt
stands_by None clean [] = if clean then Clean else Spoilt
stands_by None clean (c ∷ []) = if is_whole c then Runs else Sends
stands_by None clean (c ∷ d ∷ unanswered) = Spoilt

abbrev pub stands : List Command → Replies → Standing
stands commands replies = stands_by replies.bad (is_empty replies.rest && list_all is_whole commands) (drop (length replies.whole) commands)

abbrev pub standing_in : Opening → List Command → Replies → Standing
standing_in (Goes said) commands replies = Enters
standing_in (LogsIn said rest) commands replies = stands commands replies
standing_in (Fails said fault) commands replies = Spoilt

abbrev pub standing_on : Forms → Account → LinkId → Log → Standing
standing_on forms user link log = if was_lost link log then Spoilt else standing_in (login_on user link log) (commands_on user link log) (replies_on forms user link log)

-- the reply at a place, or the error where none can come any more
abbrev pub error_by : Option ℕ → (lost : Bool) → Option Answer
error_by (Some place) lost = Some (bad_server_bytes place ∷ [])
error_by None lost = if lost then Some (connection_lost ∷ []) else None

abbrev pub or_else : Option Answer → Option Answer → Option Answer
or_else (Some reply) other = Some reply
or_else None other = other

abbrev pub reply_at : ℕ → Replies → (lost : Bool) → Option Answer
reply_at place replies lost = or_else (slice_get replies.whole place) (error_by replies.bad lost)
