-- What the lines of a recording give.
use Rattle.std.specs.Prelude.{ℕ, ◌-◌, ◌==◌, ◌&&◌, Bool, true, false, nat_eq, if◌then◌else◌, List, [], ◌∷◌, length, fold, drop, Option, Some, None}
use Rattle.std.specs.List.{flat_map, filter_map, list_any}
use Rattle.mx_base.specs.declared.names.Port.{Port}
use Rattle.mx_base.specs.declared.names.Port.TheVariants.{Traffic, Admin}
use Rattle.recording.specs.declared.entry.RecordLink.{RecordLink}
use Rattle.recording.specs.declared.entry.RecordLink.TheVariants.{Client, Server}
use Rattle.recording.specs.declared.entry.RecordEntry.{RecordEntry}
use Rattle.mem_wire.specs.declared.ending.Ending.{Ending}
use Rattle.mem_wire.specs.declared.ending.Ending.TheVariants as ending
use Rattle.mem_wire.specs.declared.marks.Mark.{Mark}
use Rattle.mem_wire.specs.declared.marks.Mark.TheVariants as mark
use Rattle.mem_wire.specs.declared.waiting.Waiting.{Waiting}
use Rattle.recording.specs.declared.entry.RecordEntry.TheVariants.{At, Accept, Bytes, End, Fail, Take, Refuse, Exec, Drop}

abbrev pub is_at : RecordEntry → Bool
is_at (At ms) = true
is_at _ = false

abbrev pub moment_at : RecordEntry → Option ℕ
moment_at (At ms) = Some ms
moment_at _ = None

abbrev pub moments : List RecordEntry → List ℕ
moments recording = filter_map moment_at recording

-- what so many wakes release: the lines before the next moment
abbrev pub released : ℕ → List RecordEntry → List RecordEntry
released wakes [] = []
released wakes (line ∷ later) =
    if is_at line && (wakes == 0)
    then []
    else line ∷ released (if is_at line then wakes - 1 else wakes) later

-- what the last of so many wakes released
abbrev pub released_last : ℕ → List RecordEntry → List RecordEntry
released_last wakes recording = drop (length (released (wakes - 1) recording)) (released wakes recording)

abbrev pub is_port : Port → Port → Bool
is_port Traffic Traffic = true
is_port Admin Admin = true
is_port _ _ = false

abbrev pub waiting_at : Port → RecordEntry → Option Waiting
waiting_at port (Accept n at salt) = if is_port port at then Some (record { number = n; salt = salt }) else None
waiting_at port _ = None

-- the clients that come to the port
abbrev pub clients_at : Port → List RecordEntry → List Waiting
clients_at port lines = filter_map (waiting_at port) lines

abbrev pub same_name : RecordLink → RecordLink → Bool
same_name (Client n) (Client m) = nat_eq n m
same_name (Server n) (Server m) = nat_eq n m
same_name _ _ = false

-- the bytes that can be read of a link
abbrev pub bytes_at : RecordLink → RecordEntry → List ℕ
bytes_at name (Bytes link bytes) = if same_name name link then bytes else []
bytes_at name _ = []

abbrev pub bytes_for : RecordLink → List RecordEntry → List ℕ
bytes_for name lines = flat_map (bytes_at name) lines

-- how the link ends behind its bytes
abbrev pub ending_step : RecordLink → Option Ending → RecordEntry → Option Ending
ending_step name was (End link) = if same_name name link then Some ending.End else was
ending_step name was (Fail link) = if same_name name link then Some ending.Fail else was
ending_step name was _ = was

abbrev pub ending_for : RecordLink → List RecordEntry → Option Ending
ending_for name lines = fold (ending_step name) None lines

-- how many bytes writes on it take in all, where a line says so; the last line counts
abbrev pub room_step : RecordLink → Option ℕ → RecordEntry → Option ℕ
room_step name was (Take link n) = if same_name name link then Some n else was
room_step name was _ = was

abbrev pub room_for : RecordLink → List RecordEntry → Option ℕ
room_for name lines = fold (room_step name) None lines

-- the marks of the link
abbrev pub mark_for : RecordLink → RecordEntry → Option Mark
mark_for name (Exec k) = if same_name name (Server k) then Some mark.Exec else None
mark_for name (Drop k) = if same_name name (Server k) then Some mark.Drop else None
mark_for name _ = None

abbrev pub marks_for : RecordLink → List RecordEntry → List Mark
marks_for name lines = filter_map (mark_for name) lines

-- a line refuses the open of this number
abbrev pub refuses : ℕ → RecordEntry → Bool
refuses k (Refuse other) = nat_eq other k
refuses k _ = false

abbrev pub is_refused : ℕ → List RecordEntry → Bool
is_refused k lines = list_any (refuses k) lines

-- the link that the line names
abbrev pub name_at : RecordEntry → Option RecordLink
name_at (Accept n port salt) = Some (Client n)
name_at (Bytes link bytes) = Some link
name_at (End link) = Some link
name_at (Fail link) = Some link
name_at (Take link n) = Some link
name_at (Exec k) = Some (Server k)
name_at (Drop k) = Some (Server k)
name_at _ = None
