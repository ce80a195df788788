-- Which links are still to be named in a wake.
use Rattle.std.specs.Prelude.{ℕ, ◌+◌, ◌-◌, ◌==◌, ◌&&◌, ◌||◌, not, is_some, Bool, false, if◌then◌else◌, List, [], ◌∷◌, take, drop, Option, Some, None}
use Rattle.mx_base.specs.declared.names.LinkId.{LinkId}
use Rattle.recording.specs.declared.entry.RecordEntry.{RecordEntry}
use Rattle.mem_wire.specs.declared.ending.Ending.{Ending}
use Rattle.mem_wire.specs.declared.track.Track.{Track}
use Rattle.mem_wire.specs.Lines.{name_at}
use Rattle.mem_wire.specs.Play.{is_ready}
use Rattle.mem_wire.specs.Tracks.{track_at, place, room_in}

abbrev pub is_named : Option ℕ → ℕ → Bool
is_named (Some wake) last = wake == last
is_named None last = false

-- the link of the track, where it is to be named by the wake of this line
abbrev pub named_by : ℕ → Track → Option LinkId
named_by last t = if not t.closed && (is_ready t.unread t.ending t.told t.blocked (room_in last t.room) && not (is_named t.named last)) then t.link else None

abbrev pub named_at : ℕ → List Track → ℕ → Option LinkId
named_at last tracks at = named_by last (track_at tracks at)

-- A link is ready, or may be so in the next wake without a line of it: this wake limits its writes, and one may find no
-- room.
abbrev pub may_turn_ready : (unread : List ℕ) (ending : Option Ending) (told blocked : Bool) (room : Option ℕ) → Bool
may_turn_ready unread ending told blocked room = is_ready unread ending told blocked room || is_some room

abbrev pub may_be_ready : ℕ → Track → Bool
may_be_ready last t = not t.closed && may_turn_ready t.unread t.ending t.told t.blocked (room_in last t.room)

-- the line names the link of this place
abbrev pub names : ℕ → RecordEntry → Bool
names at line = elim (name_at line) [ Some name ↦ at == place name | None ↦ false ]

-- the first of the lines that names the place; they are numbered from this number on
abbrev pub first_from : ℕ → ℕ → List RecordEntry → Option ℕ
first_from at from [] = None
first_from at from (line ∷ later) = if names at line then Some from else first_from at (from + 1) later

-- the lines from the first to the second place, which are behind it
abbrev pub lines_between : ℕ → ℕ → List RecordEntry → List RecordEntry
lines_between from to entries = take (to - from) (drop from entries)
