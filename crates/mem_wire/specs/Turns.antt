-- In what order links are named in a wake.
use Rattle.std.specs.Prelude.{◌≡◌, ◌⊎◌, ℕ, ◌<◌, ◌≤◌, if◌then◌else◌, true, false, List, length, slice_get, Option, Some, None, IfSome, IfNone}
use Rattle.std.specs.Option.{option_or}
use Rattle.std.specs.Ordering.{nat_cmp}
use Rattle.std.specs.BTreeMap.{get}
use Rattle.std.specs.BTreeSet.{contains}
use Rattle.mx_base.specs.declared.names.LinkId.{LinkId}
use Rattle.recording.specs.declared.entry.RecordEntry.{RecordEntry}
use Rattle.mem_wire.specs.declared.track.Track.{Track}
use Rattle.mem_wire.specs.declared.turns.Turns.{Turns}
use Rattle.mem_wire.specs.declared.stage.Stage.{Stage}
use Rattle.mem_wire.specs.declared.naming.ToName.{ToName}
use Rattle.mem_wire.specs.Tracks.{track_at}
use Rattle.mem_wire.specs.Naming.{named_at, may_be_ready, names, first_from, lines_between}

-- no line and no link
pub record HasNone (turns : Turns) : Type 0 where
  pub firsts : (at : ℕ) → get nat_cmp turns.firsts at ≡ None
  pub lines : (line : ℕ) → get nat_cmp turns.lines line ≡ None
  pub link : turns.link ≡ 0

-- One more line of a wake: its link may be ready, and the line counts where it is the first that names its place.
pub record Sees (tracks : List Track) (line : RecordEntry) (number : ℕ) (old new : Turns) : Type 0 where
  pub link : new.link ≡ old.link
  pub mine : (at : ℕ) (link : LinkId) → names at line ≡ true → (track_at tracks at).link ≡ Some link → contains nat_cmp new.pending link.0 ≡ true
  pub kept : (n : ℕ) → contains nat_cmp old.pending n ≡ true → contains nat_cmp new.pending n ≡ true
  pub firsts : (at : ℕ) → get nat_cmp new.firsts at ≡ option_or (get nat_cmp old.firsts at) (if names at line then Some number else None)
  pub counts : (at : ℕ) → names at line ≡ true → get nat_cmp old.firsts at ≡ None → get nat_cmp new.lines number ≡ Some at
  pub others : (i : ℕ) → (i ≡ number → ⊥) → get nat_cmp new.lines i ≡ get nat_cmp old.lines i
  pub only : (at : ℕ) → get nat_cmp new.lines number ≡ Some at → (get nat_cmp old.lines number ≡ Some at) ⊎ ((names at line ≡ true) × (get nat_cmp old.firsts at ≡ None))

-- The lines of a wake: each place that they name is there with its first line, and its link may be ready.
pub record Seen (tracks : List Track) (from : ℕ) (recorded : List RecordEntry) (old new : Turns) : Type 0 where
  pub link : new.link ≡ 0
  pub kept : (n : ℕ) → contains nat_cmp old.pending n ≡ true → contains nat_cmp new.pending n ≡ true
  pub pending : (at i : ℕ) (link : LinkId) → first_from at from recorded ≡ Some i → (track_at tracks at).link ≡ Some link → contains nat_cmp new.pending link.0 ≡ true
  pub firsts : (at : ℕ) → get nat_cmp new.firsts at ≡ first_from at from recorded
  pub lines : (at i : ℕ) → first_from at from recorded ≡ Some i → get nat_cmp new.lines i ≡ Some at
  pub queued : (i at : ℕ) → get nat_cmp new.lines i ≡ Some at → first_from at from recorded ≡ Some i

-- The link of this number comes at this place: it may be ready, and the first line of the place counts again.
pub record Joins (number at : ℕ) (old new : Turns) : Type 0 where
  pub link : new.link ≡ old.link
  pub firsts : new.firsts ≡ old.firsts
  pub mine : contains nat_cmp new.pending number ≡ true
  pub kept : (n : ℕ) → contains nat_cmp old.pending n ≡ true → contains nat_cmp new.pending n ≡ true
  pub line : (i : ℕ) → get nat_cmp old.firsts at ≡ Some i → get nat_cmp new.lines i ≡ Some at
  pub others : (i : ℕ) → (get nat_cmp old.firsts at ≡ Some i → ⊥) → get nat_cmp new.lines i ≡ get nat_cmp old.lines i

-- no line is before this one, which is the place's
pub record IsFirstLine (turns : Turns) (line at : ℕ) : Type 0 where
  pub has : get nat_cmp turns.lines line ≡ Some at
  pub least : (other spot : ℕ) → get nat_cmp turns.lines other ≡ Some spot → line ≤ other

-- no line went whose link is to be named
pub record PassesLines (wake : ℕ) (tracks : List Track) (old new : Turns) : Type 0 where
  pub frame : new ≡ record old { lines = new.lines }
  pub kept : (line at : ℕ) → get nat_cmp new.lines line ≡ Some at → get nat_cmp old.lines line ≡ Some at
  pub left : (line at : ℕ) (link : LinkId) → get nat_cmp old.lines line ≡ Some at → named_at wake tracks at ≡ Some link → get nat_cmp new.lines line ≡ Some at

-- the link of the earliest line is to be named
pub record StopsAtLine (wake : ℕ) (tracks : List Track) (turns : Turns) (t : ToName) : Type 0 where
  pub named : named_at wake tracks t.at ≡ Some t.link
  pub line : ℕ
  pub first : IsFirstLine turns line t.at

-- no link was passed that is to be named; of those that were, the ones stay that may be ready later
pub record PassesLinks (wake : ℕ) (tracks : List Track) (places : List ℕ) (old new : Turns) : Type 0 where
  pub frame : new ≡ record old { pending = new.pending; link = new.link }
  pub later : old.link ≤ new.link
  pub within : old.link ≤ length places → new.link ≤ length places
  pub passed : (n at : ℕ) → old.link ≤ n → n < new.link → slice_get places n ≡ Some at → contains nat_cmp old.pending n ≡ true → named_at wake tracks at ≡ None
  pub left : (n at : ℕ) → slice_get places n ≡ Some at → may_be_ready wake (track_at tracks at) ≡ true → contains nat_cmp old.pending n ≡ true → contains nat_cmp new.pending n ≡ true
  pub gone : (n at : ℕ) → old.link ≤ n → n < new.link → slice_get places n ≡ Some at → may_be_ready wake (track_at tracks at) ≡ false → contains nat_cmp new.pending n ≡ false

-- the link where the search stands is to be named
pub record StopsAtLink (wake : ℕ) (tracks : List Track) (places : List ℕ) (turns : Turns) (t : ToName) : Type 0 where
  pub named : named_at wake tracks t.at ≡ Some t.link
  pub here : slice_get places turns.link ≡ Some t.at

-- no line is left, and the links were searched
pub record SearchesLinks (found : Option ToName) (s : Stage) (old new : Turns) : Type 0 where
  pub no_line : (line : ℕ) → get nat_cmp old.lines line ≡ None
  pub passes : PassesLinks s.last s.tracks.items s.places.items old new
  pub some : IfSome found (λ t. StopsAtLink s.last s.tracks.items s.places.items new t)
  pub none : IfNone found ((n at : ℕ) → new.link ≤ n → slice_get s.places.items n ≡ Some at → contains nat_cmp new.pending n ≡ false)

-- what a search of the lines has found is the first; where it has found nothing, the links are searched
abbrev pub SearchesOn : (of_lines found : Option ToName) → Stage → (old new : Turns) → Type 0
SearchesOn (Some t) found s old new = (found ≡ Some t) × (new ≡ old) × StopsAtLine s.last s.tracks.items old t
SearchesOn None found s old new = SearchesLinks found s old new

pub record Searches (found : Option ToName) (old new : Stage) : Type 0 where
  pub frame : new ≡ record old { turns = new.turns }
  pub of_lines : Option ToName
  pub mid : Turns
  pub passes : PassesLines old.last old.tracks.items old.turns mid
  pub on : SearchesOn of_lines found old mid new.turns

-- Each link that is to be named is in its turn: by the first line of its place if it has one, and by its number.
pub record InTurn (recorded : List RecordEntry) (last : ℕ) (tracks : List Track) (places : List ℕ) (turns : Turns) : Type 0 where
  pub firsts : (at : ℕ) → get nat_cmp turns.firsts at ≡ first_from at last recorded
  pub lines : (at i : ℕ) (link : LinkId) → named_at last tracks at ≡ Some link → first_from at last recorded ≡ Some i → get nat_cmp turns.lines i ≡ Some at
  pub queued : (i at : ℕ) → get nat_cmp turns.lines i ≡ Some at → first_from at last recorded ≡ Some i
  pub within : turns.link ≤ length places
  pub passed : (number at : ℕ) → number < turns.link → slice_get places number ≡ Some at → named_at last tracks at ≡ None
  pub pending : (number at : ℕ) → slice_get places number ≡ Some at → may_be_ready last (track_at tracks at) ≡ true → contains nat_cmp turns.pending number ≡ true

abbrev pub AllInTurn : List RecordEntry → Stage → Type 0
AllInTurn recording s = InTurn (lines_between s.last s.cut recording) s.last s.tracks.items s.places.items s.turns
