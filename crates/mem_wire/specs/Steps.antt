-- How a play's stage changes.
use Rattle.std.specs.Prelude.{◌≡◌, ℕ, ◌<◌, ◌≤◌, ◌+◌, ◌*◌, if◌then◌else◌, List, [], ◌∷◌, ◌++◌, length, take, min, slice_get, Bool, false, Option, Some, None}
use Rattle.mx_base.specs.declared.names.LinkId.{LinkId}
use Rattle.mx_base.specs.declared.names.Port.{Port}
use Rattle.mx_base.specs.declared.names.Port.TheVariants.{Traffic, Admin}
use Rattle.recording.specs.declared.entry.RecordEntry.{RecordEntry}
use Rattle.mx_wire.specs.declared.wire.Got.{Got}
use Rattle.mx_wire.specs.declared.wire.Got.TheVariants as got
use Rattle.mx_wire.specs.declared.wire.Took.{Took}
use Rattle.mx_wire.specs.declared.wire.Took.TheVariants as took
use Rattle.mem_wire.specs.declared.ending.Ending.{Ending}
use Rattle.mem_wire.specs.declared.ending.Ending.TheVariants as ending
use Rattle.mem_wire.specs.declared.waiting.Waiting.{Waiting}
use Rattle.mem_wire.specs.declared.track.Track.{Track}
use Rattle.mem_wire.specs.declared.stage.Stage.{Stage}
use Rattle.mem_wire.specs.Refusals.{Knows}
use Rattle.mem_wire.specs.Lines.{clients_at, is_port, is_refused}
use Rattle.mem_wire.specs.Play.{has_failed}
use Rattle.mem_wire.specs.Fitting.{fit}
use Rattle.mem_wire.specs.Tracks.{track_at, room_in, SameLinks, ChangesTrack, Released}
use Rattle.mem_wire.specs.Turns.{HasNone, Seen, Joins}

abbrev pub clients_of : Port → Stage → List Waiting
clients_of Traffic s = s.traffic.items
clients_of Admin s = s.admin.items

abbrev pub accepted_of : Port → Stage → ℕ
accepted_of Traffic s = s.traffic_accepted
accepted_of Admin s = s.admin_accepted

-- the link of this number
abbrev pub numbered : ℕ → LinkId
numbered n = record { 0 = n }

abbrev pub next_link : Stage → LinkId
next_link s = numbered (length s.places.items)

-- the lines from the cut to the next one are released
pub record Wakes (lines : List RecordEntry) (next : ℕ) (old new : Stage) : Type 0 where
  pub frame : new ≡ record old { cut = next; last = old.cut; turns = new.turns; late = new.late; traffic = new.traffic; admin = new.admin; tracks = new.tracks }
  pub late : new.late.marks ≡ []
  pub traffic : new.traffic.items ≡ old.traffic.items ++ clients_at Traffic lines
  pub admin : new.admin.items ≡ old.admin.items ++ clients_at Admin lines
  pub tracks : Released old.cut lines old.tracks.items new.tracks.items
  pub turns : Seen new.tracks.items old.cut lines old.turns new.turns

-- a link comes, whose track is at this place
pub record Enters (at : ℕ) (old new : Stage) : Type 0 where
  pub places : new.places.items ≡ old.places.items ++ at ∷ []
  pub tracks : ChangesTrack at (λ t. record t { link = Some (next_link old) }) old.tracks.items new.tracks.items
  pub turns : Joins (length old.places.items) at old.turns new.turns

pub record Accepts (port : Port) (number : ℕ) (old new : Stage) : Type 0 where
  pub frame : new ≡ record old { tracks = new.tracks; places = new.places; turns = new.turns; late = new.late; traffic_accepted = new.traffic_accepted; admin_accepted = new.admin_accepted }
  pub late : new.late.marks ≡ []
  pub accepted : (other : Port) → accepted_of other new ≡ accepted_of other old + (if is_port port other then 1 else 0)
  pub enters : Enters (2 * number) old new

-- one more open was asked for, of which it is known whether it is refused
pub record Asks (recording : List RecordEntry) (refused : Bool) (old new : Stage) : Type 0 where
  pub frame : new ≡ record old { opens = old.opens + 1; refusals = new.refusals }
  pub is : refused ≡ is_refused (old.opens + 1) recording

pub record Opens (old new : Stage) : Type 0 where
  pub frame : new ≡ record old { tracks = new.tracks; places = new.places; opened = new.opened; opens = new.opens; refusals = new.refusals; turns = new.turns; late = new.late }
  pub opened : new.opened.items ≡ old.opened.items ++ next_link old ∷ []
  pub late : new.late ≡ record { link = next_link old; marks = (track_at old.tracks.items (2 * length new.opened.items + 1)).marks }
  pub enters : Enters (2 * length new.opened.items + 1) old new

-- where the track of a link is, if it has one
abbrev pub place_in : Stage → LinkId → Option ℕ
place_in s link = slice_get s.places.items link.0

-- so many bytes of those that are ready were moved to the front
pub record ReadsFrom (ready old new : List ℕ) (size : ℕ) : Type 0 where
  pub some : 0 < size
  pub size_is : size ≡ min (length old) (length ready)
  pub bytes : take size new ≡ take size ready

-- the bytes were read, and this stands behind them
pub record EndsBy (how : Option Ending) (t : Track) : Type 0 where
  pub read : t.unread ≡ []
  pub ends : t.ending ≡ how

-- what a read of the track answers
abbrev pub ReadsTrack : Track → (old new : List ℕ) → Got → Type 0
ReadsTrack t old new (got.Got n) = ReadsFrom t.unread old new n
ReadsTrack t old new got.NotReady = EndsBy None t
ReadsTrack t old new got.End = EndsBy (Some ending.End) t
ReadsTrack t old new got.Failed = EndsBy (Some ending.Fail) t

pub record TakesFrom (last : ℕ) (t : Track) (size n : ℕ) : Type 0 where
  pub may : has_failed t.unread t.ending ≡ false
  pub some : 0 < n
  pub fits : n ≡ fit (room_in last t.room) size

pub record LetsNothing (last : ℕ) (t : Track) : Type 0 where
  pub may : has_failed t.unread t.ending ≡ false
  pub full : room_in last t.room ≡ Some 0

-- what a write of so many bytes on the track answers
abbrev pub WritesTrack : ℕ → Track → ℕ → Took → Type 0
WritesTrack last t size (took.Took n) = TakesFrom last t size n
WritesTrack last t size took.NotReady = LetsNothing last t
WritesTrack last t size took.Failed = EndsBy (Some ending.Fail) t

-- The track at a place changes, where there is one, and no marks are late.
pub record MovesAt (at : ℕ) (change : Track → Track) (old new : Stage) : Type 0 where
  pub frame : new ≡ record old { tracks = new.tracks; late = new.late }
  pub late : new.late.marks ≡ []
  pub links : SameLinks old.tracks.items new.tracks.items
  pub track : at < length old.tracks.items → ChangesTrack at change old.tracks.items new.tracks.items

-- The track of a link changes, where it has one, and no marks are late.
pub record Moves (link : LinkId) (change : Track → Track) (old new : Stage) : Type 0 where
  pub frame : new ≡ record old { tracks = new.tracks; late = new.late }
  pub late : new.late.marks ≡ []
  pub links : SameLinks old.tracks.items new.tracks.items
  pub track : (at : ℕ) → place_in old link ≡ Some at → at < length old.tracks.items → ChangesTrack at change old.tracks.items new.tracks.items

-- The places in the lines stand as they stood.
pub record KeepsPlaces (old new : Stage) : Type 0 where
  pub cut : new.cut ≡ old.cut
  pub last : new.last ≡ old.last
  pub refusals : new.refusals ≡ old.refusals

-- the places are within the recording
pub record IsWithin (recording : List RecordEntry) (s : Stage) : Type 0 where
  pub cut : s.cut ≤ length recording
  pub last : s.last ≤ s.cut
  pub refusals : Knows recording s.refusals

-- the stage before the first call
pub record IsFirst (s : Stage) : Type 0 where
  pub cut : s.cut ≡ 0
  pub last : s.last ≡ 0
  pub traffic : s.traffic.items ≡ []
  pub admin : s.admin.items ≡ []
  pub traffic_accepted : s.traffic_accepted ≡ 0
  pub admin_accepted : s.admin_accepted ≡ 0
  pub tracks : s.tracks.items ≡ []
  pub places : s.places.items ≡ []
  pub opened : s.opened.items ≡ []
  pub opens : s.opens ≡ 0
  pub refusals : s.refusals.found ≡ None
  pub late : s.late.marks ≡ []
  pub turns : HasNone s.turns
