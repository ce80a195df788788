-- The rows of a table of servers, their numbers, and the first that can't stand there.
use Rattle.std.specs.Prelude.{ℕ, suc, ◌+◌, ◌==◌, ◌&&◌, ◌||◌, Bool, nat_le, nat_lt, if◌then◌else◌, List, [], ◌∷◌, ◌++◌, length, map, sum_by, bytes_eq, Option, Some, None, is_some}
use Rattle.std.specs.Option.{option_or}
use Rattle.mx_base.specs.declared.names.ServerId.{ServerId}
use Rattle.hostgroups.specs.declared.fault.ServersFault.{ServersFault}
use Rattle.hostgroups.specs.declared.fault.ServersFault.TheVariants.{Duplicate, TooMany}
use Rattle.hostgroups.specs.declared.row.ServerName.{ServerName}
use Rattle.hostgroups.specs.declared.row.ServerRow.{ServerRow}

abbrev pub name_of : ServerRow → ServerName
name_of row = record { hostgroup = row.hostgroup; address = row.address }

-- one server: the hostgroup, the address and the port are the same
abbrev pub same_server : ServerName → ServerName → Bool
same_server a b = a.hostgroup.0 == b.hostgroup.0 && (bytes_eq a.address.ip b.address.ip && a.address.port == b.address.port)

-- the number of a server among those that have numbers from n on
abbrev pub number_from : (n : ℕ) → List ServerName → ServerName → Option ServerId
number_from n [] name = None
number_from n (first ∷ names) name = if same_server name first then Some (record { 0 = n }) else number_from (suc n) names name

-- the number of a server: names are numbered from 1
abbrev pub number_of : List ServerName → ServerName → Option ServerId
number_of names name = number_from 1 names name

-- how many connections the rows allow in all
abbrev pub connections_of : List ServerRow → ℕ
connections_of rows = sum_by (λ row. row.max_connections) rows

abbrev pub has_server : List ServerRow → ServerName → Bool
has_server rows name = is_some (number_of (map name_of rows) name)

-- what keeps a row from standing behind these: the server stands there already, there are 1,024 rows, or more than
-- 10,000 connections would be allowed in all
abbrev pub fault_of : (before : List ServerRow) → ServerRow → Option ServersFault
fault_of before row =
    if has_server before (name_of row) then Some (Duplicate (length before + 1))
    else if nat_le 1024 (length before) || nat_lt 10000 (connections_of before + row.max_connections) then Some TooMany
    else None

abbrev pub first_fault_behind : (before rows : List ServerRow) → Option ServersFault
first_fault_behind before [] = None
first_fault_behind before (row ∷ rows) = option_or (fault_of before row) (first_fault_behind (before ++ row ∷ []) rows)

-- the first fault of a table
abbrev pub first_fault : List ServerRow → Option ServersFault
first_fault rows = first_fault_behind [] rows
