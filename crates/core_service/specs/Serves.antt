-- What a configuration has the core serve by.
use Rattle.std.specs.HashMap.{HashMap, get}
use Rattle.std.specs.Option.{option_map_or}
use Rattle.std.specs.Prelude.{◌≡◌, ℕ, All, List, None, bytes_eq, find, map}
use Rattle.client_session.specs.Setups.{Setup, User}
use Rattle.core_service.specs.declared.service.Service.{Service}
use Rattle.core_service.specs.declared.service.UserAt.{UserAt}
use Rattle.handshake.specs.Spelling.{IsText}
use Rattle.hostgroups.specs.declared.row.ServerRow.{ServerRow}
use Rattle.mx_base.specs.declared.names.Hostgroup.{Hostgroup}
use Rattle.mx_config.specs.declared.config.Config.{Config}
use Rattle.mx_config.specs.declared.config.UserRow.{UserRow}
use Rattle.query_rules.specs.Building.{IsCompiled, IsInOrder}
use Rattle.query_rules.specs.Passing.{rows_of, rules_of}
use Rattle.query_rules.specs.declared.rule.Rule.{Rule}

-- who may log in

abbrev pub user_of : UserRow → User
user_of row = record { name = row.name; password = row.password }

abbrev pub users_of : List UserRow → List User
users_of rows = map user_of rows

-- no name has a NUL
abbrev pub AreTexts : List UserRow → Type 0
AreTexts rows = All (λ (row : UserRow). IsText row.name) rows

abbrev pub setup_of : Config → Setup
setup_of config = record {
  version = config.proxy.server_version;
  users = users_of config.users;
  admin = record { name = config.proxy.admin_user; password = config.proxy.admin_password };
  limit = config.proxy.max_packet;
  max_clients = config.proxy.max_clients;
  target = None;
}

-- The hostgroup to which a user's statements go where nothing else says so: by a table of users, and by rows, of which the first of a name holds.

abbrev pub home_in : {S : Type 0} → HashMap (List ℕ) UserAt S → (user : List ℕ) → Hostgroup
home_in users user = option_map_or (λ (at : UserAt). at.home) (get bytes_eq users user) (record { 0 = 0 })

abbrev pub home_by : List UserRow → (user : List ℕ) → Hostgroup
home_by rows user =
    option_map_or (λ (row : UserRow). row.default_hostgroup) (find (λ (row : UserRow). bytes_eq row.name user) rows) (record { 0 = 0 })

-- those that servers are in, row by row
abbrev pub hostgroups_of : List ServerRow → List Hostgroup
hostgroups_of rows = map (λ (row : ServerRow). row.hostgroup) rows

-- the rules in force: those that were loaded last, and first the configuration's
abbrev pub rules_in : Service → List Rule
rules_in service = option_map_or rules_of service.loaded (rules_of service.configured)

-- but for what was loaded
pub record ServesBy (config : Config) (service : Service) : Type 0 where
  pub listen : service.listen ≡ config.proxy.listen
  pub admin_listen : service.admin_listen ≡ config.proxy.admin_listen
  pub setup : service.setup ≡ setup_of config
  pub default_schema : service.default_schema ≡ config.proxy.default_schema
  pub homes : (user : List ℕ) → home_in service.users user ≡ home_by config.users user
  pub hostgroups : service.hostgroups ≡ hostgroups_of config.servers
  pub wait_ms : service.wait_ms ≡ config.proxy.wait_ms
  pub buffer_budget : service.buffer_budget ≡ config.proxy.buffer_budget
  pub rules : IsInOrder config.rules (rows_of service.configured)
  pub patterns : All IsCompiled (rules_of service.configured)
