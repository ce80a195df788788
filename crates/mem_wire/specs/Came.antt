-- What a log tells of the links that came, and which lines of the recording are theirs.
use Rattle.std.specs.Prelude.{ℕ, ◌+◌, ◌-◌, Bool, true, false, nat_eq, List, [], ◌∷◌, ◌++◌, length, filter, fold, drop, if◌then◌else◌, slice_get, Option, Some, None}
use Rattle.std.specs.List.{find}
use Rattle.mx_base.specs.declared.names.LinkId.{LinkId}
use Rattle.mx_base.specs.declared.names.Port.{Port}
use Rattle.mx_wire.specs.Log.{Log, of_link, opened_links, read_of, written_of}
use Rattle.mx_wire.specs.declared.entry.Entry.{Entry}
use Rattle.mx_wire.specs.declared.entry.Entry.TheVariants.{Woke, Accepted, Opened, OpenFailed, Ended, ReadFailed, Wrote, WriteNothing, WriteFailed}
use Rattle.recording.specs.declared.entry.RecordLink.{RecordLink}
use Rattle.recording.specs.declared.entry.RecordLink.TheVariants.{Client, Server}
use Rattle.recording.specs.declared.entry.RecordEntry.{RecordEntry}
use Rattle.mem_wire.specs.declared.ending.Ending.{Ending}
use Rattle.mem_wire.specs.declared.waiting.Waiting.{Waiting}
use Rattle.mem_wire.specs.Lines.{is_port, clients_at, released, released_last, same_name, bytes_for, ending_for, room_for}

abbrev pub is_woke : Entry → Bool
is_woke (Woke until_ms now_ms) = true
is_woke _ = false

-- how many wakes there were
abbrev pub wakes : Log → ℕ
wakes log = length (filter is_woke log)

abbrev pub is_accepted_at : Port → Entry → Bool
is_accepted_at port (Accepted at link salt) = is_port port at
is_accepted_at port _ = false

-- how many clients were accepted at the port
abbrev pub accepted_at : Port → Log → ℕ
accepted_at port log = length (filter (is_accepted_at port) log)

-- how many opens there were, also those that failed
abbrev pub is_open_call : Entry → Bool
is_open_call (Opened server address link) = true
is_open_call (OpenFailed server address) = true
is_open_call _ = false

abbrev pub opens : Log → ℕ
opens log = length (filter is_open_call log)

-- the client that waits at the port as the next one
abbrev pub next_client : List RecordEntry → Log → Port → Option Waiting
next_client recording log port = slice_get (clients_at port (released (wakes log) recording)) (accepted_at port log)

-- a link of the log, and its name in the recording
pub record Known : Type 0 where
  pub link : LinkId
  pub name : RecordLink

abbrev pub as_client : LinkId → Option Waiting → List Known
as_client link (Some client) = record { link = link; name = Client client.number } ∷ []
as_client link None = []

-- A client's link has the name of the line that it answers, and the k-th link that was opened is Server k.
abbrev pub known_by : List RecordEntry → Log → Entry → List Known
known_by recording before (Accepted port link salt) = as_client link (next_client recording before port)
known_by recording before (Opened server address link) = record { link = link; name = Server (length (opened_links before) + 1) } ∷ []
known_by recording before _ = []

abbrev pub known_after : List RecordEntry → Log → Log → List Known
known_after recording before [] = []
known_after recording before (e ∷ later) = known_by recording before e ++ known_after recording (before ++ e ∷ []) later

-- the links in the order in which they came
abbrev pub known : List RecordEntry → Log → List Known
known recording log = known_after recording [] log

abbrev pub with_link : LinkId → List Known → Option Known
with_link link links = find (λ k. nat_eq k.link.0 link.0) links

abbrev pub with_name : RecordLink → List Known → Option Known
with_name name links = find (λ k. same_name k.name name) links

-- since the last wake
abbrev pub since_step : Log → Entry → Log
since_step since e = if is_woke e then [] else since ++ e ∷ []

abbrev pub since_wake : Log → Log
since_wake log = fold since_step [] log

-- the end or the fault of the link was told
abbrev pub told_step : Bool → Entry → Bool
told_step was (Ended link) = true
told_step was (ReadFailed link) = true
told_step was (WriteFailed link) = true
told_step was _ = was

abbrev pub is_told : LinkId → Log → Bool
is_told link log = fold told_step false (of_link link log)

-- the last write on the link found no room
abbrev pub blocked_step : Bool → Entry → Bool
blocked_step was (Wrote link tag bytes) = false
blocked_step was (WriteNothing link) = true
blocked_step was _ = was

abbrev pub is_blocked : LinkId → Log → Bool
is_blocked link log = fold blocked_step false (of_link link log)

-- the bytes that are ready for the link, behind those that were read of it
abbrev pub unread_of : List RecordEntry → Log → Known → List ℕ
unread_of recording log k = drop (length (read_of k.link log)) (bytes_for k.name (released (wakes log) recording))

abbrev pub unread : List RecordEntry → Log → Option Known → List ℕ
unread recording log (Some k) = unread_of recording log k
unread recording log None = []

-- how the link ends, if it does
abbrev pub ending_of : List RecordEntry → Log → Known → Option Ending
ending_of recording log k = ending_for k.name (released (wakes log) recording)

abbrev pub known_ending : List RecordEntry → Log → Option Known → Option Ending
known_ending recording log (Some k) = ending_of recording log k
known_ending recording log None = None

-- how many bytes more writes take until the next wake, where a line of this wake says so
abbrev pub room_left : Option ℕ → ℕ → Option ℕ
room_left None written = None
room_left (Some n) written = Some (n - written)

abbrev pub room_of : List RecordEntry → Log → Known → Option ℕ
room_of recording log k = room_left (room_for k.name (released_last (wakes log) recording)) (length (written_of k.link (since_wake log)))

abbrev pub known_room : List RecordEntry → Log → Option Known → Option ℕ
known_room recording log (Some k) = room_of recording log k
known_room recording log None = None
