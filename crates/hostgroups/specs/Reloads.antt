-- What a table of servers becomes as other rows are put in force.
use Rattle.std.specs.Prelude.{ℕ, ◌+◌, Bool, true, false, not, ◌&&◌, nat_le, if◌then◌else◌, List, [], ◌∷◌, ◌++◌, filter, length, map, Option, Some, None, is_some}
use Rattle.std.specs.Option.{option_or}
use Rattle.mx_base.specs.declared.names.ServerId.{ServerId}
use Rattle.hostgroups.specs.declared.fault.ServersFault.{ServersFault}
use Rattle.hostgroups.specs.declared.fault.ServersFault.TheVariants.{NumbersSpent}
use Rattle.hostgroups.specs.declared.row.ServerName.{ServerName}
use Rattle.hostgroups.specs.declared.row.ServerRow.{ServerRow}
use Rattle.hostgroups.specs.declared.row.ServerStatus.{ServerStatus}
use Rattle.hostgroups.specs.declared.row.ServerStatus.TheVariants.{Online, OfflineHard, Shunned}
use Rattle.hostgroups.specs.declared.server.Server.{Server}
use Rattle.hostgroups.specs.Rows.{fault_of, name_of, number_of}
use Rattle.hostgroups.specs.Servers.{in_force, names_of}
use Rattle.hostgroups.specs.Turns.{row_at}

-- A server that has a number.

-- one that is SHUNNED stays so where its row says ONLINE
abbrev pub status_behind : (old status : ServerStatus) → ServerStatus
status_behind (Shunned until_ms) Online = Shunned until_ms
status_behind old status = status

abbrev pub row_numbered : List ServerRow → Option ServerId → Option ServerRow
row_numbered rows None = None
row_numbered rows (Some number) = row_at rows number.0

abbrev pub row_named : List ServerRow → ServerName → Option ServerRow
row_named rows name = row_numbered rows (number_of (map name_of rows) name)

-- its row is put in force; without one it has gone
abbrev pub put_in : Server → Option ServerRow → Server
put_in server None = record server { status = OfflineHard; gone = true }
put_in server (Some row) = record { row = row; status = status_behind server.status row.status; gone = false }

abbrev pub as_named : List ServerRow → Server → Server
as_named rows server = put_in server (row_named rows (name_of server.row))

-- One that has none gets the next.

abbrev pub is_new : List Server → ServerRow → Bool
is_new servers row = not (is_some (number_of (names_of servers) (name_of row)))

abbrev pub new_rows : List Server → List ServerRow → List ServerRow
new_rows servers rows = filter (is_new servers) rows

abbrev pub reloaded : List Server → List ServerRow → List Server
reloaded servers rows = map (as_named rows) servers ++ map in_force (new_rows servers rows)

-- What keeps a row from being put in force behind others: what keeps it from standing in their table, or that it needs a new number where
-- 65,535 were given.

abbrev pub spent : List Server → (before : List ServerRow) → ServerRow → Option ServersFault
spent servers before row =
    if is_new servers row && nat_le 65535 (length servers + length (new_rows servers before)) then Some NumbersSpent else None

abbrev pub reload_fault_of : List Server → (before : List ServerRow) → ServerRow → Option ServersFault
reload_fault_of servers before row = option_or (fault_of before row) (spent servers before row)

abbrev pub reload_fault_behind : List Server → (before rows : List ServerRow) → Option ServersFault
reload_fault_behind servers before [] = None
reload_fault_behind servers before (row ∷ rows) =
    option_or (reload_fault_of servers before row) (reload_fault_behind servers (before ++ row ∷ []) rows)

-- the first fault of rows that are to be put in force
abbrev pub reload_fault : List Server → List ServerRow → Option ServersFault
reload_fault servers rows = reload_fault_behind servers [] rows
