-- What a tape shows.
use Rattle.std.specs.Prelude.{ℕ, List, Option}
use Rattle.mx_wire.specs.Log.{Log}
use Rattle.recording.specs.declared.entry.RecordEntry.{RecordEntry}

-- the recording that it plays, its log where it is told, and how often a link has failed
pub record Played : Type 0 where
  pub recording : List RecordEntry
  pub told : Option Log
  pub faults : ℕ
