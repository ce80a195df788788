-- A replay has turns enough: each wake of a play is one of its recording's moments.
use Rattle.std.specs.Prelude.{◌≡◌, ◌⊎◌, ℕ, ◌+◌, ◌*◌, ◌≤◌, List, [], ◌∷◌, length, filter, fold}
use Rattle.std.proofs.Common.{inl, inr, ◌∙◌, arith}
use Rattle.mx_wire.specs.Log.{Log}
use Rattle.mx_wire.specs.declared.entry.Entry.TheVariants as entry
use Rattle.recording.specs.declared.entry.RecordEntry.{RecordEntry}
use Rattle.recording.specs.declared.entry.RecordEntry.TheVariants as line
use Rattle.mem_wire.specs.Lines.{moments}
use Rattle.mem_wire.specs.Came.{is_woke}
use Rattle.mem_wire.specs.Play.{IsPlay}
use Rattle.mem_wire.specs.Plays.{play-taken}
use Rattle.ready_loop.specs.Round.{wake_step, wakes_of, calls_since_wake}

moments-few : (recording : List RecordEntry) → length (moments recording) ≤ length recording
moments-few [] = search arith
moments-few (line.At ms ∷ later) = let few = moments-few later in omega arith
moments-few (_ ∷ later) = let few = moments-few later in omega arith

-- both ways to count wakes give one number
counts-same : (n : ℕ) (log : Log) → fold wake_step n log ≡ n + length (filter is_woke log)
counts-same n [] = omega arith
counts-same n (entry.Woke until_ms now_ms ∷ log) = counts-same (n + 1) log ∙ omega arith
counts-same n (_ ∷ log) = counts-same n log

-- so a play that spent its turns is busy
pub spent-busy : (recording : List RecordEntry) (log : Log) → IsPlay recording log → (wakes_of log ≡ 2 * length recording + 16) ⊎ (4294967296 ≤ calls_since_wake log) → 4294967296 ≤ calls_since_wake log
spent-busy recording log play (inl woke) =
    let few = (play-taken recording log play).woke in
    let same = counts-same 0 log in
    let less = moments-few recording in
    absurd (omega arith)
spent-busy recording log play (inr busy) = busy
