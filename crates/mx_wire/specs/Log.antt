-- The log of a wire, and what was read and written on a link of it.
use Rattle.std.specs.Prelude.{ℕ, Bool, true, false, nat_eq, List, [], ◌∷◌, filter, fold, Option, Some, None}
use Rattle.std.specs.List.{flat_map, filter_map}
use Rattle.mx_base.specs.declared.names.LinkId.{LinkId}
use Rattle.mx_wire.specs.declared.entry.Entry.{Entry}
use Rattle.mx_wire.specs.declared.entry.Entry.TheVariants.{Woke, Named, Accepted, Opened, Got, ReadNothing, Ended, ReadFailed, Wrote, WriteNothing, WriteFailed, Closed, Exec, Drop}

abbrev pub Log : Type 0
Log = List Entry

-- the link that the entry names
abbrev pub link_of : Entry → Option LinkId
link_of (Named link) = Some link
link_of (Accepted port link salt) = Some link
link_of (Opened server address link) = Some link
link_of (Got link bytes) = Some link
link_of (ReadNothing link) = Some link
link_of (Ended link) = Some link
link_of (ReadFailed link) = Some link
link_of (Wrote link tag bytes) = Some link
link_of (WriteNothing link) = Some link
link_of (WriteFailed link) = Some link
link_of (Closed link) = Some link
link_of (Exec link) = Some link
link_of (Drop link) = Some link
link_of _ = None

abbrev pub is_link : LinkId → Option LinkId → Bool
is_link link None = false
is_link link (Some other) = nat_eq link.0 other.0

-- the entries of one link
abbrev pub of_link : LinkId → Log → Log
of_link link log = filter (λ e. is_link link (link_of e)) log

abbrev pub got_bytes : Entry → List ℕ
got_bytes (Got link bytes) = bytes
got_bytes _ = []

abbrev pub wrote_bytes : Entry → List ℕ
wrote_bytes (Wrote link tag bytes) = bytes
wrote_bytes _ = []

-- the bytes read of a link, and the bytes written on it
abbrev pub read_of : LinkId → Log → List ℕ
read_of link log = flat_map got_bytes (of_link link log)

abbrev pub written_of : LinkId → Log → List ℕ
written_of link log = flat_map wrote_bytes (of_link link log)

-- a link is open from its Accepted or Opened entry to its Closed entry
abbrev pub open_step : Bool → Entry → Bool
open_step was (Accepted port link salt) = true
open_step was (Opened server address link) = true
open_step was (Closed link) = false
open_step was _ = was

abbrev pub is_open : LinkId → Log → Bool
is_open link log = fold open_step false (of_link link log)

-- the clients' links, and the links to servers, in the order in which they came
abbrev pub accepted_link : Entry → Option LinkId
accepted_link (Accepted port link salt) = Some link
accepted_link _ = None

abbrev pub opened_link : Entry → Option LinkId
opened_link (Opened server address link) = Some link
opened_link _ = None

abbrev pub accepted_links : Log → List LinkId
accepted_links log = filter_map accepted_link log

abbrev pub opened_links : Log → List LinkId
opened_links log = filter_map opened_link log

-- the moment of the last wake, at first 0
abbrev pub moment_step : ℕ → Entry → ℕ
moment_step was (Woke until_ms now_ms) = now_ms
moment_step was _ = was

abbrev pub moment_of : Log → ℕ
moment_of log = fold moment_step 0 log

-- servers alone make these: a command ran, or the session was closed
abbrev pub IsMark : Entry → Type 0
IsMark (Exec link) = Unit {0}
IsMark (Drop link) = Unit {0}
IsMark _ = ⊥

abbrev pub AreMarks : Log → Type 0
AreMarks [] = Unit {0}
AreMarks (e ∷ marks) = IsMark e × AreMarks marks
