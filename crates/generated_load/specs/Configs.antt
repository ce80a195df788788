-- The configuration of a load.
use Rattle.std.specs.Prelude.{ℕ, false, List, [], ◌∷◌, codes}
use Rattle.hostgroups.specs.declared.row.ServerRow.{ServerRow}
use Rattle.hostgroups.specs.declared.row.ServerStatus.TheVariants.{Online}
use Rattle.mx_base.specs.declared.names.Address.{Address}
use Rattle.mx_config.specs.declared.config.Config.{Config}
use Rattle.mx_config.specs.declared.config.ProxyRow.{ProxyRow}
use Rattle.mx_config.specs.declared.config.UserRow.{UserRow}

abbrev pub local : (port : ℕ) → Address
local port = record { ip = 127 ∷ 0 ∷ 0 ∷ 1 ∷ []; port = port }

-- the schema is `load`; all else is as in a file that doesn't say
abbrev pub proxy_row : ProxyRow
proxy_row = record {
  listen = local 6033;
  admin_listen = local 6032;
  admin_user = codes "admin";
  admin_password = [];
  server_version = codes "8.0.30-mx";
  default_schema = codes "load";
  max_clients = 1000;
  max_packet = 67108864;
  buffer_budget = 1073741824;
  wait_ms = 10000;
  idle_ms = 600000;
}

abbrev pub user_row : UserRow
user_row = record { name = codes "u"; password = []; default_hostgroup = record { 0 = 0 }; whitelist = false }

abbrev pub server_row : ServerRow
server_row = record { hostgroup = record { 0 = 0 }; address = local 3306; weight = 1; max_connections = 8; status = Online }

abbrev pub load_config : Config
load_config = record { proxy = proxy_row; users = user_row ∷ []; servers = server_row ∷ []; rules = []; whitelist = [] }
