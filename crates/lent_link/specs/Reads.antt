-- What is read of a reply, piece by piece.
use Rattle.std.specs.Prelude.{ℕ, ◌+◌, ◌-◌, ◌%◌, ◌^◌, length}
use Rattle.reply_track.specs.Runs.{Ending}
use Rattle.reply_track.specs.Runs.Ending.{Going, Ended, Failed}
use Rattle.reply_track.specs.Tracking.{started}
use Rattle.reply_track.specs.declared.reply.EndKind as track
use Rattle.reply_track.specs.declared.reply.EndKind.TheVariants as tracked
use Rattle.reply_track.specs.declared.reply.ReplyEnd as track_end
use Rattle.reply_track.specs.declared.reply.ReplyKind.{ReplyKind}
use Rattle.session_state.specs.declared.reply_end.EndKind.{EndKind}
use Rattle.session_state.specs.declared.reply_end.EndKind.TheVariants as kinds
use Rattle.session_state.specs.declared.reply_end.ReplyEnd.{ReplyEnd}
use Rattle.lent_link.specs.declared.reading.Reading.{Reading}
use Rattle.lent_link.specs.declared.reading.Took.{Took}
use Rattle.lent_link.specs.declared.reading.Took.TheVariants.{Part, Whole, Bad}

abbrev pub kind_of : track.EndKind → EndKind
kind_of tracked.Ok = kinds.Ok
kind_of tracked.Err = kinds.Err
kind_of tracked.Rows = kinds.Rows
kind_of tracked.Prepared = kinds.Prepared

-- how a reply ended, in the words of sessions
abbrev pub end_of : track_end.ReplyEnd → ReplyEnd
end_of end = record {
  kind = kind_of end.kind;
  flags = end.flags;
  warnings = end.warnings;
  insert_id = end.insert_id;
  code = end.code;
  server_number = end.server_number;
  params = end.params;
}

-- nothing was read yet
abbrev pub reading : ReplyKind → (server client number : ℕ) → Reading
reading kind server client number =
    record { tracker = record { state = started (record { kind = kind; server = server; client = client; number = number }) }; read = 0 }

-- so many more bytes of it
abbrev pub more : (read size : ℕ) → ℕ
more read size = (read + size) % 2 ^ 64

-- what a piece of so many bytes made of it, of which so many were read before
abbrev pub taken_by : (size read : ℕ) → Ending → Took
taken_by size read (Going state) = Part
taken_by size read (Ended end rest) = Whole (size - length rest) (end_of end)
taken_by size read (Failed rest) = Bad (more read (size - length rest))

abbrev pub walked : (size : ℕ) → Reading → Ending → Reading
walked size old (Going state) = record { tracker = record { state = state }; read = more old.read size }
walked size old (Ended end rest) = old
walked size old (Failed rest) = old
