-- Servers by number, and the rows that they have.
use Rattle.std.specs.Prelude.{ℕ, zero, suc, Bool, false, not, ◌&&◌, if◌then◌else◌, List, [], ◌∷◌, map, slice_get, Option, None, Some, is_some}
use Rattle.mx_base.specs.declared.names.Hostgroup.{Hostgroup}
use Rattle.mx_base.specs.declared.names.ServerId.{ServerId}
use Rattle.hostgroups.specs.declared.row.ServerName.{ServerName}
use Rattle.hostgroups.specs.declared.row.ServerRow.{ServerRow}
use Rattle.hostgroups.specs.declared.row.ServerStatus.{ServerStatus}
use Rattle.hostgroups.specs.declared.server.Server.{Server}
use Rattle.hostgroups.specs.Rows.{name_of}
use Rattle.hostgroups.specs.Statuses.{once_failed}
use Rattle.hostgroups.specs.Turns.{is_in}

abbrev pub rows_of : List Server → List ServerRow
rows_of servers = map (λ s. s.row) servers

abbrev pub names_of : List Server → List ServerName
names_of servers = map name_of (rows_of servers)

-- a server as its row says
abbrev pub in_force : ServerRow → Server
in_force row = record { row = row; status = row.status; gone = false }

-- the row by which it has turns: one that has gone has none
abbrev pub turning : Server → ServerRow
turning server = record server.row { weight = if server.gone then 0 else server.row.weight }

abbrev pub turning_rows : List Server → List ServerRow
turning_rows servers = map turning servers

abbrev pub nth : List Server → ℕ → Option Server
nth servers zero = None
nth servers (suc n) = slice_get servers n

-- the server of a number; the first has the number 1
abbrev pub server_at : List Server → ServerId → Option Server
server_at servers server = nth servers server.0

abbrev pub is_known : List Server → ServerId → Bool
is_known servers server = is_some (server_at servers server)

abbrev pub belongs_there : Hostgroup → Option Server → Bool
belongs_there hostgroup None = false
belongs_there hostgroup (Some server) = is_in hostgroup server.row && not server.gone

-- whether the server of a number is one of a hostgroup, and hasn't gone
abbrev pub belongs : List Server → Hostgroup → ServerId → Bool
belongs servers hostgroup server = belongs_there hostgroup (server_at servers server)

-- a server with its status changed
abbrev pub restated : (ServerStatus → ServerStatus) → Server → Server
restated change server = record server { status = change server.status }

abbrev pub changed_at : List Server → ℕ → (ServerStatus → ServerStatus) → List Server
changed_at [] n change = []
changed_at (first ∷ servers) zero change = restated change first ∷ servers
changed_at (first ∷ servers) (suc n) change = first ∷ changed_at servers n change

abbrev pub changed : List Server → ℕ → (ServerStatus → ServerStatus) → List Server
changed servers zero change = servers
changed servers (suc n) change = changed_at servers n change

-- the server of a number has this status, and the others have theirs
abbrev pub with_status : List Server → ServerId → ServerStatus → List Server
with_status servers server status = changed servers server.0 (λ _. status)

-- an open to the server of a number failed
abbrev pub once_open_failed : List Server → ServerId → (now_ms : ℕ) → List Server
once_open_failed servers server now_ms = changed servers server.0 (once_failed now_ms)
