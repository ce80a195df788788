-- What was read on a link and is no whole answer yet.
use Rattle.std.specs.Prelude.{◌≡◌, ℕ, Bool, true, false, fold, if◌then◌else◌, List, [], ◌∷◌, Option, Some, None}
use Rattle.mx_base.specs.Fields.{AreBytes}
use Rattle.reply_relay.specs.Cells.{CellRead, byte_taken, new_cell}
use Rattle.reply_track.specs.Runs.{Ending, Failed, renumbered}
use Rattle.reply_track.specs.Tracking.{Sought, started}
use Rattle.reply_track.specs.declared.reply.ReplyKind.{ReplyKind}
use Rattle.reply_track.specs.declared.reply.ReplyKind.TheVariants as kinds
use Rattle.server_rule.specs.Replies.{one_number}
use Rattle.private_model.specs.Story.{command_of}
use Rattle.private_model.specs.View as view
use Rattle.log_story.specs.Servers.{kind_by, read_as, reply_id}
use Rattle.log_story.specs.Tale.{Wire, is_reset_step}
use Rattle.link_state.specs.Asks.{kind_of}
use Rattle.link_state.specs.declared.asking.Form.{Form}
use Rattle.link_state.specs.declared.asking.Form.TheVariants.{ReadId}
use Rattle.link_state.specs.declared.state.Stage.{Stage}
use Rattle.link_state.specs.declared.state.Stage.TheVariants.{Quiet, Asked, Answered}
use Rattle.lent_link.specs.Pieces.{IsRead}
use Rattle.lent_link.specs.declared.link.LentLink.{LentLink}
use Rattle.lent_link.specs.declared.link.Step.{Step}
use Rattle.lent_link.specs.declared.link.Step.TheVariants.{Resets}
use Rattle.lent_link.specs.declared.reading.Reading.{Reading}

-- With these bytes no answer goes on, or nobody asked for them.

abbrev pub is_bad : Ending → Bool
is_bad (Failed rest) = true
is_bad _ = false

abbrev pub has_bytes : List ℕ → Bool
has_bytes [] = false
has_bytes (byte ∷ bytes) = true

abbrev pub is_bad_at : Wire → view.Stage → Bool
is_bad_at wire (view.Answered question) = is_bad (read_as (kind_by (command_of question)) wire)
is_bad_at wire _ = has_bytes wire.unread

abbrev pub is_bad_there : Wire → view.Stage → Bool
is_bad_there wire stage = if is_reset_step wire.step then is_bad (read_as kinds.Command wire) else is_bad_at wire stage

-- What is answered there, once a byte of it was read.

abbrev pub kind_answered : Stage → Option ReplyKind
kind_answered (Answered asking) = Some (kind_of asking.form)
kind_answered _ = None

abbrev pub kind_due : Step → Stage → Option ReplyKind
kind_due (Resets number) stage = Some kinds.Command
kind_due _ stage = kind_answered stage

abbrev pub sought : ReplyKind → (id first number : ℕ) → Sought
sought kind id first number = record { kind = kind; server = id; client = first; number = number }

-- the reply under way stands for the bytes that were read
pub record IsAnswering (r : Reading) (due : Option ReplyKind) (id first number : ℕ) (unread : List ℕ) : Type 0 where
  pub kind : ReplyKind
  pub is_due : due ≡ Some kind
  pub are : AreBytes unread
  pub read : IsRead (sought kind id first number) unread r

-- none is under way, and nothing is unread
pub record IsDry (stage : Stage) (unread : List ℕ) : Type 0 where
  pub none : unread ≡ []
  pub unanswered : kind_answered stage ≡ None

abbrev pub IsUnreadBy : Option Reading → Step → Stage → (id first number : ℕ) → (unread : List ℕ) → Type 0
IsUnreadBy None step stage id first number unread = IsDry stage unread
IsUnreadBy (Some r) step stage id first number unread = IsAnswering r (kind_due step stage) id first number unread

abbrev pub IsUnread : LentLink → Wire → Type 0
IsUnread link wire = IsUnreadBy link.reading link.step link.state.stage (reply_id wire) link.first link.number wire.unread

-- What was read of the answer to a question for an insert id.

abbrev pub IsCellFor : Form → Option CellRead → (id first number : ℕ) → (unread : List ℕ) → Type 0
IsCellFor ReadId cell id first number unread =
    cell ≡ Some (fold byte_taken new_cell (renumbered (started (sought kinds.Command id first number)) unread))
IsCellFor _ cell id first number unread = Unit {0}

abbrev pub IsCellBy : Stage → Option CellRead → (id first number : ℕ) → (unread : List ℕ) → Type 0
IsCellBy Quiet cell id first number unread = Unit {0}
IsCellBy (Asked asking) cell id first number unread = IsCellFor asking.form cell id first number unread
IsCellBy (Answered asking) cell id first number unread = IsCellFor asking.form cell id first number unread

abbrev pub IsCell : Option CellRead → LentLink → Wire → Type 0
IsCell cell link wire = IsCellBy link.state.stage cell (reply_id wire) link.first link.number wire.unread

-- the one number of the answer, where it was asked for
abbrev pub IsNumberFor : Form → (number : Option ℕ) → (payloads : List (List ℕ)) → Type 0
IsNumberFor ReadId number payloads = number ≡ one_number payloads
IsNumberFor _ number payloads = Unit {0}
