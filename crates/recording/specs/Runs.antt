-- What makes the runs of a transcript the longest ones.
use Rattle.std.specs.Prelude.{◌≡◌, false, List, [], ◌∷◌}
use Rattle.std.specs.List.{flat_map}
use Rattle.mx_wire.specs.Log.{Log, wrote_bytes}
use Rattle.recording.specs.Transcript.{Run, runs, same_tag}

-- neighbours have different tags
abbrev pub AreApart : List Run → Type 0
AreApart [] = Unit {0}
AreApart (run ∷ []) = Unit {0}
AreApart (run ∷ next ∷ later) = (same_tag run.tag next.tag ≡ false) × AreApart (next ∷ later)

-- the runs are what was written, all of it in order, and neighbours have different tags
pub record AreLongest (log : Log) : Type 0 where
  pub whole : flat_map (λ run. run.bytes) (runs log) ≡ flat_map wrote_bytes log
  pub apart : AreApart (runs log)
