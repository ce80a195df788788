-- The moment of a read is noted beside all else.
use Rattle.std.specs.Prelude.{◌≡◌, ℕ, List, take, Option, Some, None}
use Rattle.std.proofs.Common.{refl}
use Rattle.session_state.specs.declared.reply_end.ReplyEnd.{ReplyEnd}
use Rattle.link_state.specs.States as states
use Rattle.link_state.specs.States.{answered_in}
use Rattle.link_state.specs.declared.asking.Asking.{Asking}
use Rattle.lent_link.specs.Hears.{expecting}
use Rattle.lent_link.specs.declared.reading.Took.{Took}
use Rattle.lent_link.specs.declared.reading.Took.TheVariants as took
use Rattle.served_link.specs.Hears.{heard, made_in, noted_if, number_read, row_by, row_with, seen, took_in}
use Rattle.served_link.specs.Reads.{used_at}
use Rattle.served_link.specs.declared.row.Row.{Row}

noted_used : (asking : Option Asking) (end : ReplyEnd) (number : Option ℕ) (now : ℕ) (row : Row)
    → noted_if asking end number (used_at now row) ≡ used_at now (noted_if asking end number row)
noted_used None end number now row = refl
noted_used (Some asking) end number now row = refl

by_used : (t : Took) (made : List ℕ) (now : ℕ) (row : Row) → row_by t made (used_at now row) ≡ used_at now (row_by t made row)
by_used took.Part made now row = refl
by_used (took.Whole used end) made now row =
    noted_used (answered_in row.link.state.stage) end (number_read (seen (take used made) row).cell) now
    (record (seen (take used made) row) {
      cell = None;
      link = record row.link { state = states.heard end (number_read (seen (take used made) row).cell) row.link.state };
    })
by_used (took.Bad place) made now row = refl

pub heard_used : (bytes : List ℕ) (now : ℕ) (row : Row) → heard bytes (used_at now row) ≡ used_at now (heard bytes row)
heard_used bytes now row =
    by_used (took_in (expecting row.link).reading bytes) (made_in (expecting row.link).reading bytes) now (row_with bytes row)
