-- Where the lines of one moment end.
use Rattle.std.specs.Prelude.{◌≡◌, ℕ, true, false, List, [], ◌∷◌, Option, None}
use Rattle.recording.specs.declared.entry.RecordEntry.{RecordEntry}
use Rattle.mem_wire.specs.Lines.{is_at, moment_at}

-- no line begins a moment
abbrev pub NoMoment : List RecordEntry → Type 0
NoMoment [] = Unit {0}
NoMoment (line ∷ later) = (is_at line ≡ false) × NoMoment later

-- these lines begin with a moment, or there are none
abbrev pub EndsAtMoment : List RecordEntry → Type 0
EndsAtMoment [] = Unit {0}
EndsAtMoment (line ∷ later) = is_at line ≡ true

abbrev pub first_moment : List RecordEntry → Option ℕ
first_moment [] = None
first_moment (line ∷ later) = moment_at line
