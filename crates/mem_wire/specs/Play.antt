-- What a play of a recording is.
use Rattle.std.specs.Prelude.{◌≡◌, ℕ, ◌+◌, ◌-◌, ◌<◌, ◌≤◌, ◌&&◌, ◌||◌, not, Bool, true, false, nat_eq, nat_lt, is_some, if◌then◌else◌, List, [], ◌∷◌, ◌++◌, length, fold, take, slice_get, Option, Some, None}
use Rattle.std.specs.List.{filter_map, find, list_any}
use Rattle.mx_base.specs.declared.names.LinkId.{LinkId}
use Rattle.mx_wire.specs.Log.{Log, opened_link, opened_links, is_open}
use Rattle.mx_wire.specs.Moments.{AllLawful}
use Rattle.mx_wire.specs.declared.entry.Entry.{Entry}
use Rattle.mx_wire.specs.declared.entry.Entry.TheVariants as entry
use Rattle.recording.specs.declared.entry.RecordLink.TheVariants.{Server}
use Rattle.recording.specs.declared.entry.RecordEntry.{RecordEntry}
use Rattle.recording.specs.declared.entry.RecordEntry.TheVariants as line
use Rattle.mem_wire.specs.declared.waiting.Waiting.{Waiting}
use Rattle.mem_wire.specs.declared.ending.Ending.{Ending}
use Rattle.mem_wire.specs.declared.ending.Ending.TheVariants as ending
use Rattle.mem_wire.specs.declared.marks.Mark.{Mark}
use Rattle.mem_wire.specs.declared.marks.Mark.TheVariants as mark
use Rattle.mem_wire.specs.Marks.{mark_entry, entries_of}
use Rattle.mem_wire.specs.Lines.{moments, released, released_last, marks_for, is_refused, name_at}
use Rattle.mem_wire.specs.Came.{wakes, opens, next_client, Known, known, with_link, with_name, unread_of, unread, ending_of, known_ending, room_of, known_room, is_told, is_blocked}

-- Which links a wake names.

-- the links that were named since the last wake
abbrev pub named_step : List LinkId → Entry → List LinkId
named_step links (entry.Woke until_ms now_ms) = []
named_step links (entry.Named link) = links ++ link ∷ []
named_step links _ = links

abbrev pub named_since : Log → List LinkId
named_since log = fold named_step [] log

abbrev pub is_empty : List ℕ → Bool
is_empty [] = true
is_empty (byte ∷ bytes) = false

abbrev pub has_room : Option ℕ → Bool
has_room None = true
has_room (Some n) = nat_lt 0 n

-- A link is ready while it has bytes to read, an end or a fault that wasn't told, or room again for a write that
-- found none.
abbrev pub is_ready : (unread : List ℕ) (ending : Option Ending) (told blocked : Bool) (room : Option ℕ) → Bool
is_ready unread ending told blocked room = not (is_empty unread) || ((is_some ending && not told) || (blocked && has_room room))

-- it is named while it is open, and once a wake
abbrev pub is_to_name : List RecordEntry → Log → Known → Bool
is_to_name recording log k =
    is_open k.link log
    && (is_ready (unread_of recording log k) (ending_of recording log k) (is_told k.link log) (is_blocked k.link log) (room_of recording log k)
    && not (list_any (λ link. nat_eq link.0 k.link.0) (named_since log)))

abbrev pub known_at : List Known → RecordEntry → Option Known
known_at links l = elim (name_at l) [ Some name ↦ with_name name links | None ↦ None ]

-- those of the wake's lines first, and then the others as they came
abbrev pub naming_order : List RecordEntry → Log → List Known
naming_order recording log = filter_map (known_at (known recording log)) (released_last (wakes log) recording) ++ known recording log

abbrev pub next_named : List RecordEntry → Log → Option Known
next_named recording log = find (is_to_name recording log) (naming_order recording log)

-- Where marks stand.

abbrev pub is_mark : Entry → Bool
is_mark (entry.Exec link) = true
is_mark (entry.Drop link) = true
is_mark _ = false

-- the marks behind the last entry that is none
abbrev pub last_marks : Log → Log
last_marks log = fold (λ marks e. if is_mark e then marks ++ e ∷ [] else []) [] log

-- the link that was opened, where the last entry that is no mark says so
abbrev pub just_opened : Log → Option LinkId
just_opened log = fold (λ was e. if is_mark e then was else opened_link e) None log

-- the mark of an `exec` or `drop` line, where its link has been opened
abbrev pub mark_on : Option LinkId → Mark → Option Entry
mark_on (Some link) m = Some (mark_entry link m)
mark_on None m = None

abbrev pub mark_at : List LinkId → RecordEntry → Option Entry
mark_at links (line.Exec k) = mark_on (slice_get links (k - 1)) mark.Exec
mark_at links (line.Drop k) = mark_on (slice_get links (k - 1)) mark.Drop
mark_at links _ = None

-- those of the link that was opened just before, which the wakes before had released
abbrev pub late_marks : List RecordEntry → Log → Log
late_marks recording log = elim (just_opened log) [ Some link ↦ entries_of link (marks_for (Server (length (opened_links log))) (released (wakes log) recording)) | None ↦ [] ]

-- and before a wake those of its own lines
abbrev pub due_marks : List RecordEntry → Log → Entry → Log
due_marks recording log (entry.Woke until_ms now_ms) =
    late_marks recording log ++ filter_map (mark_at (opened_links log)) (released_last (wakes log + 1) recording)
due_marks recording log _ = late_marks recording log

-- What each call answers.

-- all that is ready, as far as there is room for it
pub record Reads (ready bytes : List ℕ) : Type 0 where
  pub some : 0 < length bytes
  pub is : bytes ≡ take 65536 ready

-- the bytes were read, and behind them stands this ending
pub record IsBehind (recording : List RecordEntry) (log : Log) (link : LinkId) (how : Option Ending) : Type 0 where
  pub read : unread recording log (with_link link (known recording log)) ≡ []
  pub ends : known_ending recording log (with_link link (known recording log)) ≡ how

-- so many bytes fit
abbrev pub FitsRoom : Option ℕ → ℕ → Type 0
FitsRoom None size = Unit {0}
FitsRoom (Some n) size = size ≤ n

-- the link hasn't failed
abbrev pub has_failed : List ℕ → Option Ending → Bool
has_failed unread (Some ending.Fail) = is_empty unread
has_failed unread _ = false

pub record MayWrite (recording : List RecordEntry) (log : Log) (link : LinkId) : Type 0 where
  pub unfailed : has_failed (unread recording log (with_link link (known recording log))) (known_ending recording log (with_link link (known recording log))) ≡ false

pub record Takes (recording : List RecordEntry) (log : Log) (link : LinkId) (bytes : List ℕ) : Type 0 where
  pub may : MayWrite recording log link
  pub some : 0 < length bytes
  pub fits : FitsRoom (known_room recording log (with_link link (known recording log))) (length bytes)

-- a `take` line lets no more bytes through
pub record IsFull (recording : List RecordEntry) (log : Log) (link : LinkId) : Type 0 where
  pub may : MayWrite recording log link
  pub full : known_room recording log (with_link link (known recording log)) ≡ Some 0

pub record Brings (next : Option Waiting) (salt : List ℕ) : Type 0 where
  pub number : ℕ
  pub is : next ≡ Some (record { number = number; salt = salt })

pub record Names (next : Option Known) (link : LinkId) : Type 0 where
  pub named : Known
  pub is : next ≡ Some named
  pub link_is : named.link ≡ link

abbrev pub Answers : List RecordEntry → Log → Entry → Type 0
Answers recording before (entry.Listening port address) = Unit {0}
Answers recording before (entry.Woke until_ms now_ms) = slice_get (moments recording) (wakes before) ≡ Some now_ms
Answers recording before entry.Over = length (moments recording) ≤ wakes before
Answers recording before (entry.Named link) = Names (next_named recording before) link
Answers recording before entry.NoneNamed = next_named recording before ≡ None
Answers recording before (entry.Accepted port link salt) = Brings (next_client recording before port) salt
Answers recording before (entry.AcceptNothing port) = next_client recording before port ≡ None
Answers recording before (entry.Opened server address link) = is_refused (opens before + 1) recording ≡ false
Answers recording before (entry.OpenFailed server address) = is_refused (opens before + 1) recording ≡ true
Answers recording before (entry.Got link bytes) = Reads (unread recording before (with_link link (known recording before))) bytes
Answers recording before (entry.ReadNothing link) = IsBehind recording before link None
Answers recording before (entry.Ended link) = IsBehind recording before link (Some ending.End)
Answers recording before (entry.ReadFailed link) = IsBehind recording before link (Some ending.Fail)
Answers recording before (entry.Wrote link tag bytes) = Takes recording before link bytes
Answers recording before (entry.WriteNothing link) = IsFull recording before link
Answers recording before (entry.WriteFailed link) = IsBehind recording before link (Some ending.Fail)
Answers recording before (entry.Closed link) = Unit {0}
Answers recording before _ = ⊥

pub record IsCallOf (recording : List RecordEntry) (before : Log) (e : Entry) : Type 0 where
  pub marks : last_marks before ≡ due_marks recording before e
  pub answer : Answers recording before e

-- A mark is judged at the entry that it stands before.
abbrev pub IsAnswerOf : List RecordEntry → Log → Entry → Type 0
IsAnswerOf recording before (entry.Exec link) = Unit {0}
IsAnswerOf recording before (entry.Drop link) = Unit {0}
IsAnswerOf recording before e = IsCallOf recording before e

-- Each answer of the wire is the one that the recording gives at that place.
abbrev pub IsPlay : List RecordEntry → Log → Type 0
IsPlay recording log = AllLawful (IsAnswerOf recording) log
