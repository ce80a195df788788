-- Tracks by place.
use Rattle.std.specs.Prelude.{◌≡◌, ℕ, ◌+◌, ◌-◌, ◌*◌, ◌==◌, ◌++◌, if◌then◌else◌, true, false, List, [], drop, fold, slice_index_or, Option, Some, None}
use Rattle.recording.specs.declared.entry.RecordLink.{RecordLink}
use Rattle.recording.specs.declared.entry.RecordLink.TheVariants.{Client, Server}
use Rattle.recording.specs.declared.entry.RecordEntry.{RecordEntry}
use Rattle.recording.specs.declared.entry.RecordEntry.TheVariants.{Take}
use Rattle.mx_wire.specs.declared.wire.Got.{Got}
use Rattle.mx_wire.specs.declared.wire.Got.TheVariants as got
use Rattle.mx_wire.specs.declared.wire.Took.{Took}
use Rattle.mx_wire.specs.declared.wire.Took.TheVariants as took
use Rattle.mem_wire.specs.declared.room.Room.{Room}
use Rattle.mem_wire.specs.declared.track.Track.{Track}
use Rattle.mem_wire.specs.Lines.{same_name, bytes_for, ending_step, marks_for}

-- the track of a link that no line named
abbrev pub blank : Track
blank = record { link = None; closed = false; unread = []; ending = None; told = false; room = None; blocked = false; marks = []; named = None }

abbrev pub track_at : List Track → ℕ → Track
track_at tracks at = slice_index_or tracks at blank

abbrev pub place : RecordLink → ℕ
place (Client n) = 2 * n
place (Server k) = 2 * k + 1

abbrev pub SameTracks : List Track → List Track → Type 0
SameTracks old new = (at : ℕ) → track_at new at ≡ track_at old at

-- no track has got another link
abbrev pub SameLinks : List Track → List Track → Type 0
SameLinks old new = (at : ℕ) → (track_at new at).link ≡ (track_at old at).link

-- the track at the place has changed in this way, and no other has
abbrev pub ChangesTrack : ℕ → (Track → Track) → List Track → List Track → Type 0
ChangesTrack at change old new =
    (other : ℕ) → track_at new other ≡ (if other == at then change (track_at old other) else track_at old other)

-- the room that the lines of a wake leave
abbrev pub room_given : ℕ → RecordLink → Option Room → RecordEntry → Option Room
room_given wake name was (Take link n) = if same_name name link then Some (record { wake = wake; left = n }) else was
room_given wake name was _ = was

-- what the lines of the wake of this line give to the track of a name
abbrev pub given : ℕ → RecordLink → List RecordEntry → Track → Track
given wake name lines t = record t {
  unread = t.unread ++ bytes_for name lines;
  ending = fold (ending_step name) t.ending lines;
  room = fold (room_given wake name) t.room lines;
  marks = t.marks ++ marks_for name lines;
}

-- each track has what these lines of the wake give to it behind what it had
abbrev pub Released : ℕ → List RecordEntry → List Track → List Track → Type 0
Released wake lines old new = (name : RecordLink) → track_at new (place name) ≡ given wake name lines (track_at old (place name))

-- the room that is left in the wake of this line, where there is a limit
abbrev pub room_in : ℕ → Option Room → Option ℕ
room_in last None = None
room_in last (Some room) = if room.wake == last then Some room.left else None

-- What reads and writes change of a track.

abbrev pub read_change : Got → Track → Track
read_change (got.Got n) t = record t { unread = drop n t.unread }
read_change got.NotReady t = t
read_change _ t = record t { told = true }

abbrev pub spent : ℕ → Option Room → Option Room
spent n None = None
spent n (Some room) = Some (record { wake = room.wake; left = room.left - n })

abbrev pub write_change : Took → Track → Track
write_change (took.Took n) t = record t { room = spent n t.room; blocked = false }
write_change took.NotReady t = record t { blocked = true }
write_change took.Failed t = record t { told = true }
