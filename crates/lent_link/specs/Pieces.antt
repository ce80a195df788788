-- What a reply under way stands for: the bytes of it that were read.
use Rattle.std.specs.Prelude.{◌≡◌, ℕ, ◌%◌, ◌^◌, List, length}
use Rattle.reply_track.specs.Runs.{run}
use Rattle.reply_track.specs.Runs.Ending.{Going}
use Rattle.reply_track.specs.Tracking.{Sought, started}
use Rattle.lent_link.specs.declared.reading.Reading.{Reading}

pub record IsRead (sought : Sought) (bytes : List ℕ) (r : Reading) : Type 0 where
  pub goes : run (started sought) bytes ≡ Going r.tracker.state
  pub count : length bytes % 2 ^ 64 ≡ r.read
