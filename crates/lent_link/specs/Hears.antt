-- What is read on a link to a server.
use Rattle.std.specs.Prelude.{◌≡◌, ℕ, true, not, ◌||◌, nat_eq, nat_lt, List, length, Option, Some, None, Result, Ok, Err}
use Rattle.reply_track.specs.Runs.{renumbered, run}
use Rattle.reply_track.specs.declared.reply.ReplyKind.TheVariants as kinds
use Rattle.server_side.specs.Backend.{BackendState}
use Rattle.server_side.specs.declared.fault.BackendFault.{BackendFault}
use Rattle.server_side.specs.declared.hear.Heard.{Heard}
use Rattle.server_side.specs.declared.hear.Heard.TheVariants.{LoggedIn}
use Rattle.link_state.specs.Asks as asks
use Rattle.link_state.specs.States.{ran}
use Rattle.link_state.specs.Writes.{answer_id}
use Rattle.link_state.specs.declared.state.Stage.{Stage}
use Rattle.link_state.specs.declared.state.Stage.TheVariants.{Asked}
use Rattle.link_state.specs.declared.writing.Writing.{Writing}
use Rattle.lent_link.specs.Reads.{reading, taken_by, walked}
use Rattle.lent_link.specs.declared.link.LentLink.{LentLink}
use Rattle.lent_link.specs.declared.link.Step.{Step}
use Rattle.lent_link.specs.declared.link.Step.TheVariants.{Other, Resets}
use Rattle.lent_link.specs.declared.reading.Reading.{Reading}
use Rattle.lent_link.specs.declared.reading.Took.{Took}
use Rattle.lent_link.specs.declared.reading.Took.TheVariants.{Part, Whole, Bad}

-- In a login. Behind a fault the link is spoilt, and so it is by bytes behind the end, which nobody asked for.

abbrev pub entered_as : Heard → BackendState → LentLink → LentLink
entered_as LoggedIn login link = record link { login = login; spoilt = link.spoilt || not (nat_eq (length login.framer.kept) 0) }
entered_as heard login link = record link { login = login }

abbrev pub entered : Result Heard BackendFault → BackendState → LentLink → LentLink
entered (Ok heard) login link = entered_as heard login link
entered (Err fault) login link = record link { login = login; spoilt = true }

-- Behind it. With the first byte of an answer what stands there runs.

abbrev pub id_written : Option Writing → ℕ
id_written None = 1
id_written (Some writing) = answer_id writing

abbrev pub expecting_at : Stage → LentLink → LentLink
expecting_at (Asked asking) link =
    record link { state = ran link.state; reading = Some (reading (asks.kind_of asking.form) (id_written link.writing) link.first link.number) }
expecting_at _ link = link

abbrev pub expecting_by : Step → LentLink → LentLink
expecting_by (Resets number) link =
    record link { reading = Some (reading kinds.Command (id_written link.writing) link.first link.number) }
expecting_by _ link = expecting_at link.state.stage link

abbrev pub expecting_if : Option Reading → LentLink → LentLink
expecting_if (Some under_way) link = link
expecting_if None link = expecting_by link.step link

abbrev pub expecting : LentLink → LentLink
expecting link = expecting_if link.reading link

-- a piece of so many bytes was taken
abbrev pub followed : Reading → Took → (size : ℕ) → LentLink → LentLink
followed under_way Part size link = record link { reading = Some under_way }
followed under_way (Whole used end) size link =
    record link { reading = None; writing = None; step = Other; spoilt = link.spoilt || nat_lt used size }
followed under_way (Bad place) size link = record link { spoilt = true }

-- what was taken of the reply under way, and what the link and the piece are then
pub record Takes (under_way : Reading) (took : Took) (new : LentLink) (made : List ℕ) (old : LentLink) (piece : List ℕ) : Type 0 where
  pub takes : took ≡ taken_by (length piece) under_way.read (run under_way.tracker.state piece)
  pub link : new ≡ followed (walked (length piece) under_way (run under_way.tracker.state piece)) took (length piece) old
  pub handed : made ≡ renumbered under_way.tracker.state piece

-- bytes that nobody asked for
pub record Spoils (took : Took) (new : LentLink) (made : List ℕ) (old : LentLink) (piece : List ℕ) : Type 0 where
  pub bad : took ≡ Bad 0
  pub link : new ≡ record old { spoilt = true }
  pub same : made ≡ piece

abbrev pub reads_in : Option Reading → Took → (new : LentLink) → (made : List ℕ) → (old : LentLink) → (piece : List ℕ) → Type 0
reads_in (Some under_way) took new made old piece = Takes under_way took new made old piece
reads_in None took new made old piece = Spoils took new made old piece

abbrev pub read_by : Took → (new : LentLink) → (made : List ℕ) → (old : LentLink) → (piece : List ℕ) → Type 0
read_by took new made old piece = reads_in old.reading took new made old piece
