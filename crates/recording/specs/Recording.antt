-- What the bytes of a recording say, line by line, or the first line that is at fault.
use Rattle.std.specs.Prelude.{ℕ, ◌+◌, ◌==◌, ◌||◌, not, nat_lt, nat_le, Bool, true, false, if◌then◌else◌, List, [], ◌∷◌, ◌++◌, length, Option, Some, None, is_none, Result, Ok, Err}
use Rattle.std.specs.List.{slice_split}
use Rattle.recording.specs.Fields.{fields}
use Rattle.recording.specs.Line.{said}
use Rattle.recording.specs.declared.entry.RecordEntry.{RecordEntry}
use Rattle.recording.specs.declared.entry.RecordEntry.TheVariants.{At, Accept, Bytes, End, Fail, Take}
use Rattle.recording.specs.declared.entry.RecordLink.{RecordLink}
use Rattle.recording.specs.declared.entry.RecordLink.TheVariants.{Client, Server}
use Rattle.recording.specs.declared.fault.Kind.{Kind}
use Rattle.recording.specs.declared.fault.Kind.TheVariants.{NoLineFeed, UnknownWord, BadFields, BeforeFirstAt, MomentFell, WrongLink, TooLong}
use Rattle.recording.specs.declared.fault.RecordFault.{RecordFault}

-- what the lines so far leave: the moment of the last `at`, how many clients were accepted, and the links on
-- which `end` or `fail` stood
pub record Standing : Type 0 where
  pub moment : Option ℕ
  pub clients : ℕ
  pub ended : RecordLink → Bool

abbrev pub nothing_yet : Standing
nothing_yet = record { moment = None; clients = 0; ended = λ link. false }

abbrev pub same_link : RecordLink → RecordLink → Bool
same_link (Client n) (Client m) = n == m
same_link (Server k) (Server j) = k == j
same_link (Client n) (Server j) = false
same_link (Server k) (Client m) = false

-- a client's link can be named once it is accepted; a server's link needs no earlier line
abbrev pub is_known : Standing → RecordLink → Bool
is_known before (Client n) = nat_le n before.clients
is_known before (Server k) = true

abbrev pub falls : Option ℕ → ℕ → Bool
falls None ms = false
falls (Some last) ms = nat_lt ms last

-- the line names a client out of order, a client that isn't accepted, or what an ended link can't do
abbrev pub names_wrong_link : Standing → RecordEntry → Bool
names_wrong_link before (Accept n port salt) = not (n == before.clients + 1)
names_wrong_link before (Bytes link bytes) = not (is_known before link) || before.ended link
names_wrong_link before (End link) = not (is_known before link) || before.ended link
names_wrong_link before (Fail link) = not (is_known before link) || before.ended link
names_wrong_link before (Take link n) = not (is_known before link)
names_wrong_link before _ = false

abbrev pub kind_if : Bool → Kind → Option Kind
kind_if b kind = if b then Some kind else None

-- a line among the lines before it
unfoldable pub misplaced : Standing → RecordEntry → Option Kind
misplaced before (At ms) = kind_if (falls before.moment ms) MomentFell
misplaced before entry = if is_none before.moment then Some BeforeFirstAt else kind_if (names_wrong_link before entry) WrongLink

-- at most 1,000,000 lines in at most 268,435,456 bytes; the bytes are those up to the line's end
abbrev pub passes_bounds : ℕ → ℕ → Bool
passes_bounds number end = nat_lt 1000000 number || nat_lt 268435456 end

abbrev pub first_of : Option Kind → Option Kind → Option Kind
first_of (Some kind) later = Some kind
first_of None later = later

-- the lowest kind of fault of a line that says this
abbrev pub fault_of : Standing → ℕ → ℕ → RecordEntry → Option Kind
fault_of before number end entry = first_of (misplaced before entry) (kind_if (passes_bounds number end) TooLong)

unfoldable pub after : Standing → RecordEntry → Standing
after before (At ms) = record before { moment = Some ms }
after before (Accept n port salt) = record before { clients = n }
after before (End link) = record before { ended = λ other. same_link link other || before.ended other }
after before (Fail link) = record before { ended = λ other. same_link link other || before.ended other }
after before _ = before

-- an empty line, and one that begins with #
abbrev pub is_skipped : List ℕ → Bool
is_skipped [] = true
is_skipped (b ∷ line) = b == 35

abbrev pub unless_fault : Option Kind → Option RecordEntry → Result (Option RecordEntry) Kind
unless_fault (Some kind) entry = Err kind
unless_fault None entry = Ok entry

abbrev pub checked : Standing → ℕ → ℕ → Result RecordEntry Kind → Result (Option RecordEntry) Kind
checked before number end (Err kind) = Err kind
checked before number end (Ok entry) = unless_fault (fault_of before number end entry) (Some entry)

-- the entry of a line, none where it is skipped, or the lowest kind of its faults
unfoldable pub line_of : Standing → ℕ → ℕ → List ℕ → Result (Option RecordEntry) Kind
line_of before number end line =
    if is_skipped line then unless_fault (kind_if (passes_bounds number end) TooLong) None
    else checked before number end (said (fields line))

abbrev pub kind_number : Kind → ℕ
kind_number NoLineFeed = 1
kind_number UnknownWord = 2
kind_number BadFields = 3
kind_number BeforeFirstAt = 4
kind_number MomentFell = 5
kind_number WrongLink = 6
kind_number TooLong = 7

abbrev pub fault_at : ℕ → Kind → RecordFault
fault_at number kind = record { line = number; kind = kind_number kind }

abbrev pub Said : Type 0
Said = Result (List RecordEntry) RecordFault

-- what was read: how many lines, how many bytes, what the lines leave, and their entries
pub record Reading : Type 0 where
  pub lines : ℕ
  pub bytes : ℕ
  pub standing : Standing
  pub entries : List RecordEntry

abbrev pub at_start : Reading
at_start = record { lines = 0; bytes = 0; standing = nothing_yet; entries = [] }

-- what a line leaves and adds
abbrev pub taken : Standing → List RecordEntry → Result (Option RecordEntry) Kind → Result (Standing × List RecordEntry) Kind
taken before entries (Err kind) = Err kind
taken before entries (Ok None) = Ok (before, entries)
taken before entries (Ok (Some entry)) = Ok (after before entry, entries ++ entry ∷ [])

abbrev pub with_line : Reading → ℕ → Result (Standing × List RecordEntry) Kind → Result Reading RecordFault
with_line read end (Err kind) = Err (fault_at (read.lines + 1) kind)
with_line read end (Ok now) = Ok (record { lines = read.lines + 1; bytes = end; standing = now.0; entries = now.1 })

-- one more line, which a line feed ends
unfoldable pub line_read : Reading → List ℕ → Result Reading RecordFault
line_read read line =
    let end = read.bytes + length line + 1 in
    with_line read end (taken read.standing read.entries (line_of read.standing (read.lines + 1) end line))

-- the lines that are left; behind the last line feed stands nothing
abbrev pub lines_read : Result Reading RecordFault → List (List ℕ) → Said
lines_read (Err fault) lines = Err fault
lines_read (Ok read) [] = Ok read.entries
lines_read (Ok read) ([] ∷ []) = Ok read.entries
lines_read (Ok read) ((b ∷ line) ∷ []) = Err (fault_at (read.lines + 1) NoLineFeed)
lines_read (Ok read) (line ∷ next ∷ lines) = lines_read (line_read read line) (next ∷ lines)

abbrev pub is_line_feed : ℕ → Bool
is_line_feed b = b == 10

-- what a recording says, or its first faulty line with the lowest kind of its faults
unfoldable pub recording_of : List ℕ → Said
recording_of bytes = lines_read (Ok at_start) (slice_split is_line_feed bytes)
