-- What is read behind a login, and what it tells.
use Rattle.std.specs.Prelude.{ℕ, true, fold, length, take, List, Option, Some, None}
use Rattle.std.specs.Option.{option_map}
use Rattle.reply_relay.specs.Cells.{CellRead, byte_taken, cell_number}
use Rattle.reply_track.specs.Runs.{renumbered, run}
use Rattle.session_state.specs.declared.reply_end.ReplyEnd.{ReplyEnd}
use Rattle.link_state.specs.States as states
use Rattle.link_state.specs.States.{answered_in}
use Rattle.link_state.specs.declared.asking.Asking.{Asking}
use Rattle.link_state.specs.declared.asking.Purpose.{Purpose}
use Rattle.link_state.specs.declared.asking.Purpose.TheVariants.{Statement}
use Rattle.link_state.specs.declared.state.Stage.{Stage}
use Rattle.link_state.specs.declared.state.Stage.TheVariants.{Answered}
use Rattle.lent_link.specs.Hears.{expecting, followed}
use Rattle.lent_link.specs.Reads.{taken_by, walked}
use Rattle.lent_link.specs.declared.link.LentLink.{LentLink}
use Rattle.lent_link.specs.declared.reading.Reading.{Reading}
use Rattle.lent_link.specs.declared.reading.Took.{Took}
use Rattle.lent_link.specs.declared.reading.Took.TheVariants as took
use Rattle.served_link.specs.Notes.{noted}
use Rattle.served_link.specs.declared.news.News.{News}
use Rattle.served_link.specs.declared.news.News.TheVariants.{Nothing, Part, Whole, ResetDone, Bad}
use Rattle.served_link.specs.declared.row.Row.{Row}

-- A piece that the link takes, by the reply under way: what it makes of that, the link behind it, and the piece as the client gets it.

abbrev pub took_in : Option Reading → (piece : List ℕ) → Took
took_in None piece = took.Bad 0
took_in (Some reading) piece = taken_by (length piece) reading.read (run reading.tracker.state piece)

abbrev pub link_in : Option Reading → (piece : List ℕ) → LentLink → LentLink
link_in None piece link = record link { spoilt = true }
link_in (Some reading) piece link =
    followed (walked (length piece) reading (run reading.tracker.state piece)) (took_in (Some reading) piece) (length piece) link

abbrev pub made_in : Option Reading → (piece : List ℕ) → List ℕ
made_in None piece = piece
made_in (Some reading) piece = renumbered reading.tracker.state piece

abbrev pub link_read : (piece : List ℕ) → LentLink → LentLink
link_read piece link = link_in (expecting link).reading piece (expecting link)

-- What is read of the answer to a question for an insert id.

abbrev pub number_read : Option CellRead → Option ℕ
number_read None = None
number_read (Some cell) = cell_number cell

abbrev pub seen : (bytes : List ℕ) → Row → Row
seen bytes row = record row { cell = option_map (λ cell. fold byte_taken cell bytes) row.cell }

-- The answer is whole.

abbrev pub noted_if : Option Asking → ReplyEnd → (number : Option ℕ) → Row → Row
noted_if None end number row = row
noted_if (Some asking) end number row = noted asking end number row

abbrev pub answered : ReplyEnd → Row → Row
answered end row = noted_if (answered_in row.link.state.stage) end (number_read row.cell)
    (record row { cell = None; link = record row.link { state = states.heard end (number_read row.cell) row.link.state } })

-- What it tells.

abbrev pub part_for : Purpose → News
part_for (Statement name ordinal key) = Part name
part_for _ = Nothing

abbrev pub part_news : Stage → News
part_news (Answered asking) = part_for asking.purpose
part_news _ = Nothing

abbrev pub news_whole : Option Asking → ReplyEnd → (number : Option ℕ) → (used : ℕ) → News
news_whole None end number used = ResetDone
news_whole (Some asking) end number used = Whole asking end number used

-- by what the link took, behind it

abbrev pub row_by : Took → (made : List ℕ) → Row → Row
row_by took.Part made row = seen made row
row_by (took.Whole used end) made row = answered end (seen (take used made) row)
row_by (took.Bad place) made row = row

abbrev pub news_by : Took → (made : List ℕ) → Row → News
news_by took.Part made row = part_news row.link.state.stage
news_by (took.Whole used end) made row =
    news_whole (answered_in row.link.state.stage) end (number_read (seen (take used made) row).cell) used
news_by (took.Bad place) made row = Bad place

-- the row with the link behind the piece
abbrev pub row_with : (piece : List ℕ) → Row → Row
row_with piece row = record row { link = link_read piece row.link }

abbrev pub heard : (piece : List ℕ) → Row → Row
heard piece row =
    row_by (took_in (expecting row.link).reading piece) (made_in (expecting row.link).reading piece) (row_with piece row)

abbrev pub news_of : (piece : List ℕ) → Row → News
news_of piece row =
    news_by (took_in (expecting row.link).reading piece) (made_in (expecting row.link).reading piece) (row_with piece row)
