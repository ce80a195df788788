-- The tables that can be read, as columns and rows of cells.
use Rattle.std.specs.Prelude.{◌≡◌, ◌<◌, ℕ, ◌++◌, List, [], ◌∷◌, All, codes, length, map, Option, Some, None, option_map, Result, Ok, Err}
use Rattle.std.specs.Fmt.{decimal}
use Rattle.hostgroups.specs.declared.row.ServerName.{ServerName}
use Rattle.hostgroups.specs.declared.row.ServerRow.{ServerRow}
use Rattle.query_digest.specs.Hash.{hash_of}
use Rattle.query_digest.specs.declared.table.DigestKey.{DigestKey}
use Rattle.query_rules.specs.declared.row.RuleRow.{RuleRow}
use Rattle.reply_text.specs.declared.table.Table.{Table}
use Rattle.admin_port.specs.Faults.{Refuses}
use Rattle.admin_port.specs.RowValues.{cell_of, hash_text, host_text, rule_columns, rule_pairs, server_columns, server_pairs, status_text}
use Rattle.admin_port.specs.Staged.{StagedRows}
use Rattle.admin_port.specs.declared.fault.Fault.{Fault}
use Rattle.admin_port.specs.declared.running.ClientState.{ClientState}
use Rattle.admin_port.specs.declared.running.ClientState.TheVariants as states
use Rattle.admin_port.specs.declared.running.EventKind.{EventKind}
use Rattle.admin_port.specs.declared.running.EventKind.TheVariants as kinds
use Rattle.admin_port.specs.declared.running.EventRow.{EventRow}
use Rattle.admin_port.specs.declared.running.NamedRow.{NamedRow}
use Rattle.admin_port.specs.declared.running.PoolRow.{PoolRow}
use Rattle.admin_port.specs.declared.running.ProcessRow.{ProcessRow}
use Rattle.admin_port.specs.declared.running.Running.{Running}
use Rattle.admin_port.specs.declared.statement.ShownTable.{ShownTable}
use Rattle.admin_port.specs.declared.statement.ShownTable.TheVariants.{Servers, RuntimeServers, Rules, RuntimeRules, Digests, Pool, Processes, Totals, Events}

-- None is NULL
abbrev pub Cell : Type 0
Cell = Option (List ℕ)

pub record Sheet : Type 0 where
  pub columns : List (List ℕ)
  pub rows : List (List Cell)

abbrev pub sheet_of : Table → Sheet
sheet_of t = record { columns = t.columns.items; rows = map (λ row. row.items) t.rows.items }

-- there are columns, and each row has a cell for each of them
abbrev pub IsWhole : Table → Type 0
IsWhole t = (0 < length t.columns.items) × All (λ row. length row.items ≡ length t.columns.items) t.rows.items

-- unless memory was refused, the table is what is said
abbrev pub GivesSheet : Result Table Fault → Option Sheet → Type 0
GivesSheet (Ok table) said = said ≡ Some (sheet_of table)
GivesSheet (Err fault) said = Refuses fault said

abbrev pub number_cell : ℕ → Cell
number_cell n = Some (decimal n)

abbrev pub server_cells : ServerRow → List Cell
server_cells row = map (λ pair. cell_of pair.value) (server_pairs row)

abbrev pub rule_cells : RuleRow → List Cell
rule_cells row = map (λ pair. cell_of pair.value) (rule_pairs row)

-- hostgroup, host and port, or NULL for each
abbrev pub place_cells : Option ServerName → List Cell
place_cells None = None ∷ None ∷ None ∷ []
place_cells (Some server) = number_cell server.hostgroup.0 ∷ Some (host_text server.address.ip) ∷ number_cell server.address.port ∷ []

abbrev pub digest_columns : List (List ℕ)
digest_columns = codes "hostgroup" ∷ codes "schemaname" ∷ codes "username" ∷ codes "digest" ∷ codes "digest_text" ∷ codes "count_star" ∷ []

abbrev pub digest_cells : DigestKey × ℕ → List Cell
digest_cells entry = number_cell entry.0.hostgroup.0 ∷ Some entry.0.schema ∷ Some entry.0.user ∷ Some (codes "0x" ++ hash_text (hash_of entry.0.digest))
    ∷ Some entry.0.digest ∷ number_cell entry.1 ∷ []

abbrev pub pool_columns : List (List ℕ)
pool_columns = codes "hostgroup" ∷ codes "srv_host" ∷ codes "srv_port" ∷ codes "status" ∷ codes "ConnUsed" ∷ codes "ConnFree" ∷ []

abbrev pub pool_cells : PoolRow → List Cell
pool_cells row = place_cells (Some row.server) ++ (Some (status_text row.status) ∷ number_cell row.used ∷ number_cell row.free ∷ [])

abbrev pub state_text : ClientState → List ℕ
state_text states.LoggingIn = codes "login"
state_text states.Idle = codes "idle"
state_text states.Waiting = codes "waiting"
state_text states.Running = codes "running"

abbrev pub process_columns : List (List ℕ)
process_columns = codes "SessionID" ∷ codes "user" ∷ codes "hostgroup" ∷ codes "srv_host" ∷ codes "srv_port" ∷ codes "state" ∷ codes "time_ms" ∷ codes "pinned_by" ∷ []

abbrev pub process_cells : ProcessRow → List Cell
process_cells row = (number_cell row.client.0 ∷ Some row.user ∷ []) ++ (place_cells row.server ++ (Some (state_text row.state) ∷ option_map decimal row.time_ms ∷ row.pinned_by ∷ []))

abbrev pub total_columns : List (List ℕ)
total_columns = codes "Variable_Name" ∷ codes "Variable_Value" ∷ []

abbrev pub named_cells : NamedRow → List Cell
named_cells row = Some row.name ∷ Some row.value ∷ []

abbrev pub kind_text : EventKind → List ℕ
kind_text kinds.LoginRefused = codes "login refused"
kind_text kinds.TooManyConnections = codes "too many connections"
kind_text kinds.StatementRefused = codes "statement refused"
kind_text kinds.OpenFailed = codes "open failed"
kind_text kinds.ServerLoginFailed = codes "server login failed"
kind_text kinds.ServerShunned = codes "server shunned"
kind_text kinds.OutOfDescriptors = codes "out of descriptors"

abbrev pub event_columns : List (List ℕ)
event_columns = codes "moment_ms" ∷ codes "event" ∷ codes "SessionID" ∷ codes "hostgroup" ∷ codes "srv_host" ∷ codes "srv_port" ∷ codes "code" ∷ codes "text" ∷ []

abbrev pub event_cells : EventRow → List Cell
event_cells row = (number_cell row.moment_ms ∷ Some (kind_text row.kind) ∷ option_map (λ client. decimal client.0) row.client ∷ [])
    ++ (place_cells row.server ++ (option_map decimal row.code ∷ Some row.text ∷ []))

abbrev pub sheet : {X : Type 0} → (columns : List (List ℕ)) → (cells : X → List Cell) → List X → Sheet
sheet columns cells rows = record { columns = columns; rows = map cells rows }

-- a table as it is
abbrev pub shown : ShownTable → StagedRows → Running → Sheet
shown Servers staged running = sheet server_columns server_cells staged.servers
shown RuntimeServers staged running = sheet server_columns server_cells running.servers.now
shown Rules staged running = sheet rule_columns rule_cells staged.rules
shown RuntimeRules staged running = sheet rule_columns rule_cells running.rules.now
shown Digests staged running = sheet digest_columns digest_cells running.digests.now
shown Pool staged running = sheet pool_columns pool_cells running.pool.now
shown Processes staged running = sheet process_columns process_cells running.processes.now
shown Totals staged running = sheet total_columns named_cells running.totals.now
shown Events staged running = sheet event_columns event_cells running.events.now
