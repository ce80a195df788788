-- How a tape's stage stands to what its log tells.
use Rattle.std.specs.Prelude.{◌≡◌, ℕ, ◌+◌, ◌-◌, ◌*◌, ◌<◌, ◌≤◌, not, Bool, true, false, nat_eq, List, [], ◌∷◌, ◌++◌, length, take, drop, slice_get, Option, Some, None, IfSome, IfNone}
use Rattle.std.specs.List.{list_any}
use Rattle.mx_base.specs.declared.names.LinkId.{LinkId}
use Rattle.mx_base.specs.declared.names.Port.{Port}
use Rattle.mx_wire.specs.Log.{Log, opened_links, read_of, written_of, is_open}
use Rattle.recording.specs.declared.entry.RecordLink.{RecordLink}
use Rattle.recording.specs.declared.entry.RecordEntry.{RecordEntry}
use Rattle.mem_wire.specs.declared.waiting.Waiting.{Waiting}
use Rattle.mem_wire.specs.declared.track.Track.{Track}
use Rattle.mem_wire.specs.declared.stage.Stage.{Stage}
use Rattle.mem_wire.specs.Lines.{moments, clients_at, bytes_for, ending_for, room_for, marks_for}
use Rattle.mem_wire.specs.Cuts.{EndsAtMoment}
use Rattle.mem_wire.specs.Came.{wakes, accepted_at, opens, since_wake, is_told, is_blocked, room_left, Known, known}
use Rattle.mem_wire.specs.Play.{named_since}
use Rattle.mem_wire.specs.Tracks.{track_at, place, room_in}
use Rattle.mem_wire.specs.Steps.{clients_of, accepted_of, numbered}
use Rattle.mem_wire.specs.Naming.{is_named}

-- so many moments stand before this place, and one at it
pub record CutsAt (recording : List RecordEntry) (at count : ℕ) : Type 0 where
  pub count_is : length (moments (take at recording)) ≡ count
  pub ends : EndsAtMoment (drop at recording)

-- the links are numbered from n on, and their names have these places
abbrev pub Numbered : ℕ → List Known → List ℕ → Type 0
Numbered n [] [] = Unit {0}
Numbered n [] (at ∷ places) = ⊥
Numbered n (k ∷ links) [] = ⊥
Numbered n (k ∷ links) (at ∷ places) = (k.link ≡ numbered n) × (place k.name ≡ at) × Numbered (n + 1) links places

abbrev pub read_by : Option LinkId → Log → List ℕ
read_by None log = []
read_by (Some link) log = read_of link log

abbrev pub is_in : LinkId → List LinkId → Bool
is_in link links = list_any (λ other. nat_eq other.0 link.0) links

-- how many bytes were written since the last wake
abbrev pub written_by : Option LinkId → Log → ℕ
written_by None log = 0
written_by (Some link) log = length (written_of link (since_wake log))

-- the track of a link that hasn't come
pub record IsFresh (t : Track) : Type 0 where
  pub closed : t.closed ≡ false
  pub named : t.named ≡ None
  pub told : t.told ≡ false
  pub blocked : t.blocked ≡ false

-- A track has what the released lines gave to its name, but for the bytes that were read and the room that was taken.
pub record Fits (lines : List RecordEntry) (last cut : ℕ) (log : Log) (name : RecordLink) (t : Track) : Type 0 where
  pub marks : t.marks ≡ marks_for name lines
  pub bytes : read_by t.link log ++ t.unread ≡ bytes_for name lines
  pub ending : t.ending ≡ ending_for name lines
  pub room : room_in last t.room ≡ room_left (room_for name (drop last lines)) (written_by t.link log)
  pub opened : IfSome t.link (λ link. is_open link log ≡ not t.closed)
  pub told : IfSome t.link (λ link. is_told link log ≡ t.told)
  pub blocked : IfSome t.link (λ link. is_blocked link log ≡ t.blocked)
  pub named : IfSome t.link (λ link. is_in link (named_since log) ≡ is_named t.named last)
  pub fresh : IfNone t.link (IsFresh t)
  pub stamp : IfSome t.named (λ wake. wake < cut)
  pub dated : IfSome t.room (λ room. room.wake < cut)
  pub woken : t.blocked ≡ true → 0 < cut

-- the places of the clients that were accepted and of the servers that were opened
pub data Entered (s : Stage) (at : ℕ) : Type 0 where
  client : (port : Port) (i : ℕ) (waiting : Waiting) → i < accepted_of port s → slice_get (clients_of port s) i ≡ Some waiting → at ≡ 2 * waiting.number → Entered s at
  server : (k : ℕ) → k ≤ length s.opened.items → at ≡ 2 * k + 1 → Entered s at

pub record Stands (recording : List RecordEntry) (s : Stage) (log : Log) : Type 0 where
  pub cut : CutsAt recording s.cut (wakes log)
  pub last : CutsAt recording s.last (wakes log - 1)
  pub wake : 0 < s.cut → s.last < s.cut
  pub clients : (port : Port) → clients_of port s ≡ clients_at port (take s.cut recording)
  pub accepted : (port : Port) → accepted_of port s ≡ accepted_at port log
  pub opened : opened_links log ≡ s.opened.items
  pub opens : s.opens ≡ opens log
  pub links : Numbered 0 (known recording log) s.places.items
  pub placed : (number at : ℕ) → slice_get s.places.items number ≡ Some at → (track_at s.tracks.items at).link ≡ Some (numbered number)
  pub entered : (at : ℕ) (link : LinkId) → (track_at s.tracks.items at).link ≡ Some link → Entered s at
  pub tracks : (name : RecordLink) → Fits (take s.cut recording) s.last s.cut log name (track_at s.tracks.items (place name))
