-- The tables of a configuration: their keys in order, with the default and the form of each.
use Rattle.std.specs.Prelude.{ℕ, zero, suc, ◌+◌, nat_lt, if◌then◌else◌, List, [], ◌∷◌, ◌++◌, length, codes, bytes_eq, Bool, false, Some, None, Ok, Err}
use Rattle.std.specs.List.{list_any}
use Rattle.toml.specs.Data.{Data, Items, no_items, item, Members}
use Rattle.mx_base.specs.declared.names.Address.{Address}
use Rattle.hostgroups.specs.Rows.{has_server, connections_of}
use Rattle.hostgroups.specs.declared.row.ServerName.{ServerName}
use Rattle.hostgroups.specs.declared.row.ServerRow.{ServerRow}
use Rattle.hostgroups.specs.declared.row.ServerStatus.TheVariants.{Online}
use Rattle.mx_config.specs.declared.fault.Kind.TheVariants.{OutOfRange, DuplicateUser, DuplicateServer}
use Rattle.mx_config.specs.declared.fault.Place.{Place}
use Rattle.mx_config.specs.declared.fault.TableName.TheVariants.{Proxy, Users, Servers}
use Rattle.mx_config.specs.declared.value.TextForm.TheVariants.{Any, NotEmpty, Short}
use Rattle.mx_config.specs.declared.config.ProxyRow.{ProxyRow}
use Rattle.mx_config.specs.declared.proxy.ProxyTexts.{ProxyTexts}
use Rattle.mx_config.specs.declared.proxy.ProxyLimits.{ProxyLimits}
use Rattle.mx_config.specs.declared.servers.Duty.{Duty}
use Rattle.mx_config.specs.declared.config.UserRow.{UserRow}
use Rattle.mx_config.specs.Faults.{Said, ◌>>=◌, at_row, fault_at}
use Rattle.mx_config.specs.Rows.{known_only, key_of, table_at}
use Rattle.mx_config.specs.Values.{number, text, address_value, host_value, status_value, switch_value}

abbrev pub count : Items → ℕ
count no_items = zero
count (item d ds) = suc (count ds)

-- the members of a row that has no other keys than these
unfoldable pub row_at : Place → (known : List (List ℕ)) → Data → Said Members
row_at place known d = do
  ms ← table_at place d
  only ← known_only place known ms
  Ok ms

-- these rows and those that the items are, each read behind the rows before it
unfoldable pub rows_from : {X : Type 0} → (row : (before : List X) → Data → Said X) → (before : List X) → Items → Said (List X)
rows_from row before no_items = Ok before
rows_from row before (item d ds) = do
  next ← row before d
  rows_from row (before ++ next ∷ []) ds

abbrev pub proxy_keys : List (List ℕ)
proxy_keys = codes "listen" ∷ codes "admin_listen" ∷ codes "admin_user" ∷ codes "admin_password" ∷ codes "server_version" ∷ codes "default_schema"
    ∷ codes "max_clients" ∷ codes "max_packet" ∷ codes "buffer_budget" ∷ codes "wait_ms" ∷ codes "idle_ms" ∷ []

-- where clients and administrators connect
unfoldable pub listening : Place → Members → Said (Address × Address)
listening place ms = do
  listen ← key_of place (codes "listen") None address_value ms
  admin_listen ← key_of place (codes "admin_listen") None address_value ms
  Ok (listen, admin_listen)

unfoldable pub proxy_texts : Place → Members → Said ProxyTexts
proxy_texts place ms = do
  admin_user ← key_of place (codes "admin_user") None (text NotEmpty) ms
  admin_password ← key_of place (codes "admin_password") None (text Any) ms
  server_version ← key_of place (codes "server_version") (Some (codes "8.0.30-mx")) (text Short) ms
  default_schema ← key_of place (codes "default_schema") (Some (codes "information_schema")) (text Any) ms
  Ok (record { admin_user = admin_user; admin_password = admin_password; server_version = server_version; default_schema = default_schema })

unfoldable pub proxy_limits : Place → Members → Said ProxyLimits
proxy_limits place ms = do
  max_clients ← key_of place (codes "max_clients") (Some 1000) (number 1 4000) ms
  max_packet ← key_of place (codes "max_packet") (Some 67108864) (number 1024 268435456) ms
  buffer_budget ← key_of place (codes "buffer_budget") (Some 1073741824) (number 1048576 2147483648) ms
  wait_ms ← key_of place (codes "wait_ms") (Some 10000) (number 1 3600000) ms
  idle_ms ← key_of place (codes "idle_ms") (Some 600000) (number 1 86400000) ms
  Ok (record { max_clients = max_clients; max_packet = max_packet; buffer_budget = buffer_budget; wait_ms = wait_ms; idle_ms = idle_ms })

abbrev pub proxy_with : (listen admin_listen : Address) → ProxyTexts → ProxyLimits → ProxyRow
proxy_with listen admin_listen t l = record { listen = listen; admin_listen = admin_listen; admin_user = t.admin_user; admin_password = t.admin_password; server_version = t.server_version; default_schema = t.default_schema; max_clients = l.max_clients; max_packet = l.max_packet; buffer_budget = l.buffer_budget; wait_ms = l.wait_ms; idle_ms = l.idle_ms }

unfoldable pub proxy_row : Members → Said ProxyRow
proxy_row ms = do
  let place = at_row Proxy 0
  only ← known_only place proxy_keys ms
  addresses ← listening place ms
  texts ← proxy_texts place ms
  limits ← proxy_limits place ms
  Ok (proxy_with addresses.0 addresses.1 texts limits)

-- a user of the rows has the name
abbrev pub has_user : List UserRow → List ℕ → Bool
has_user rows name = list_any (λ row. bytes_eq row.name name) rows

abbrev pub user_keys : List (List ℕ)
user_keys = codes "name" ∷ codes "password" ∷ codes "default_hostgroup" ∷ codes "whitelist" ∷ []

-- no row before has the name
abbrev pub new_user : Place → (before : List UserRow) → (name : List ℕ) → Said (Unit {0})
new_user place before name = if has_user before name then Err (fault_at place DuplicateUser (codes "name")) else Ok tt

unfoldable pub user_of : Place → Members → Said UserRow
user_of place ms = do
  name ← key_of place (codes "name") None (text NotEmpty) ms
  password ← key_of place (codes "password") None (text Any) ms
  default_hostgroup ← key_of place (codes "default_hostgroup") (Some 0) (number 0 65535) ms
  whitelist ← key_of place (codes "whitelist") (Some false) switch_value ms
  Ok (record { name = name; password = password; default_hostgroup = record { 0 = default_hostgroup }; whitelist = whitelist })

-- the row behind these
unfoldable pub user_row : (before : List UserRow) → Data → Said UserRow
user_row before d = do
  let place = at_row Users (length before + 1)
  ms ← row_at place user_keys d
  user ← user_of place ms
  new ← new_user place before user.name
  Ok user

abbrev pub server_keys : List (List ℕ)
server_keys = codes "hostgroup" ∷ codes "host" ∷ codes "port" ∷ codes "weight" ∷ codes "max_connections" ∷ codes "status" ∷ []

-- the connections of all servers are at most 10,000
abbrev pub counted : Place → (before : List ServerRow) → (max_connections : ℕ) → Said (Unit {0})
counted place before n = if nat_lt 10000 (connections_of before + n) then Err (fault_at place OutOfRange (codes "max_connections")) else Ok tt

-- no row before has the hostgroup, host and port
abbrev pub new_server : Place → (before : List ServerRow) → ServerName → Said (Unit {0})
new_server place before name = if has_server before name then Err (fault_at place DuplicateServer (codes "hostgroup")) else Ok tt

unfoldable pub named_server : Place → Members → Said ServerName
named_server place ms = do
  hostgroup ← key_of place (codes "hostgroup") None (number 0 65535) ms
  host ← key_of place (codes "host") None host_value ms
  port ← key_of place (codes "port") None (number 0 65535) ms
  Ok (record { hostgroup = record { 0 = hostgroup }; address = record { ip = host; port = port } })

-- what a server behind these may be asked for
unfoldable pub duty_of : Place → (before : List ServerRow) → Members → Said Duty
duty_of place before ms = do
  weight ← key_of place (codes "weight") (Some 1) (number 1 1000) ms
  max_connections ← key_of place (codes "max_connections") (Some 100) (number 1 10000) ms
  few ← counted place before max_connections
  status ← key_of place (codes "status") (Some Online) status_value ms
  Ok (record { weight = weight; max_connections = max_connections; status = status })

abbrev pub server_with : ServerName → Duty → ServerRow
server_with name d = record { hostgroup = name.hostgroup; address = name.address; weight = d.weight; max_connections = d.max_connections; status = d.status }

-- the row behind these
unfoldable pub server_row : (before : List ServerRow) → Data → Said ServerRow
server_row before d = do
  let place = at_row Servers (length before + 1)
  ms ← row_at place server_keys d
  name ← named_server place ms
  duty ← duty_of place before ms
  new ← new_server place before name
  Ok (server_with name duty)
