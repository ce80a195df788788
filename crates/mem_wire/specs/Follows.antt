-- How a tape's stage stands to the log that it tells.
use Rattle.std.specs.Prelude.{◌≡◌, ℕ, true, List, [], ◌∷◌, length, drop, slice_get, Option, Some}
use Rattle.mx_base.specs.declared.names.LinkId.{LinkId}
use Rattle.mx_wire.specs.Log.{Log, moment_of}
use Rattle.mx_wire.specs.Tells.{IsSalt}
use Rattle.recording.specs.declared.entry.RecordEntry.{RecordEntry}
use Rattle.recording.specs.Playable.{PlayableAfter, IsPlayable}
use Rattle.mem_wire.specs.declared.waiting.Waiting.{Waiting}
use Rattle.mem_wire.specs.declared.stage.Stage.{Stage}
use Rattle.mem_wire.specs.Adds.{late_entries}
use Rattle.mem_wire.specs.Tracks.{track_at}
use Rattle.mx_wire.specs.Tells.{all_below}
use Rattle.mem_wire.specs.Below.{links_below}
use Rattle.mem_wire.specs.Play.{last_marks, late_marks, IsPlay}
use Rattle.mem_wire.specs.Stands.{Stands}
use Rattle.mem_wire.specs.Turns.{AllInTurn}
use Rattle.mem_wire.specs.Steps.{IsWithin}

-- the rest of the lines can be played behind this moment
pub record Continues (moment : ℕ) (lines : List RecordEntry) : Type 0 where
  pub clients : ℕ
  pub playable : PlayableAfter moment clients lines

abbrev pub HaveSalts : List Waiting → Type 0
HaveSalts [] = Unit {0}
HaveSalts (client ∷ clients) = IsSalt client.salt × HaveSalts clients

-- what keeps the log sound: links are new, moments don't fall, and salts are salts
pub record IsSound (recording : List RecordEntry) (s : Stage) (log : Log) : Type 0 where
  pub below : all_below (length s.places.items) log ≡ true
  pub late : all_below (length s.places.items) (late_entries s.late) ≡ true
  pub opened : links_below (length s.places.items) s.opened.items ≡ true
  pub linked : (at : ℕ) (link : LinkId) → (track_at s.tracks.items at).link ≡ Some link → slice_get s.places.items link.0 ≡ Some at
  pub rest : Continues (moment_of log) (drop s.cut recording)
  pub traffic : HaveSalts s.traffic.items
  pub admin : HaveSalts s.admin.items

-- The stage stands where the log does: the log is a play of the recording, and the stage knows what is to come.
pub record Follows (recording : List RecordEntry) (s : Stage) (log : Log) : Type 0 where
  pub playable : IsPlayable recording
  pub sound : IsSound recording s log
  pub stands : Stands recording s log
  pub turns : AllInTurn recording s
  pub late : late_marks recording log ≡ late_entries s.late
  pub unmarked : last_marks log ≡ []
  pub played : IsPlay recording log

-- the places are in range, and the stage follows the log as long as it is told
pub record IsTape (recording : List RecordEntry) (s : Stage) (told : Option Log) : Type 0 where
  pub within : IsWithin recording s
  pub follows : (log : Log) → told ≡ Some log → Follows recording s log
