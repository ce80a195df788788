-- What is counted of a log.
use Rattle.std.specs.Prelude.{ℕ, Bool, true, false, not, ◌&&◌, bytes_eq, List, [], ◌∷◌, length}
use Rattle.std.specs.List.{filter}
use Rattle.mx_base.specs.declared.tag.Tag.{Tag}
use Rattle.mx_base.specs.declared.tag.Tag.TheVariants.{Reply}
use Rattle.mx_wire.specs.Log.{Log}
use Rattle.mx_wire.specs.declared.entry.Entry.{Entry}
use Rattle.mx_wire.specs.declared.entry.Entry.TheVariants.{Opened, Wrote}
use Rattle.reply_track.specs.declared.reply.EndKind.{EndKind}
use Rattle.reply_track.specs.declared.reply.EndKind.TheVariants.{Err}
use Rattle.generated_load.specs.Replies.{ends_of}
use Rattle.generated_load.specs.declared.counts.Counts.{Counts}

abbrev pub is_opened : Entry → Bool
is_opened (Opened server address link) = true
is_opened _ = false

abbrev pub is_for_server : Tag → Bool
is_for_server Reply = false
is_for_server _ = true

-- COM_RESET_CONNECTION, whole
abbrev pub is_reset : Entry → Bool
is_reset (Wrote link tag bytes) = is_for_server tag && bytes_eq bytes (1 ∷ 0 ∷ 0 ∷ 0 ∷ 31 ∷ [])
is_reset _ = false

abbrev pub is_err : EndKind → Bool
is_err Err = true
is_err _ = false

abbrev pub counts_of : Log → Counts
counts_of log = record {
  opens = length (filter is_opened log);
  resets = length (filter is_reset log);
  ok = length (filter (λ end. not (is_err end)) (ends_of log));
  errors = length (filter is_err (ends_of log));
}
