-- A configuration: the text of its file, and what it says. It has a user, two hostgroups of a server each, and a rule.
use Rattle.std.specs.Prelude.{ℕ, true, false, List, ◌∷◌, ◌++◌, codes, Some, None, []}
use Rattle.hostgroups.specs.declared.row.ServerRow.{ServerRow}
use Rattle.hostgroups.specs.declared.row.ServerStatus.TheVariants.{Online}
use Rattle.mx_base.specs.declared.names.Address.{Address}
use Rattle.mx_base.specs.declared.names.Hostgroup.{Hostgroup}
use Rattle.mx_config.specs.declared.config.Config.{Config}
use Rattle.mx_config.specs.declared.config.ProxyRow.{ProxyRow}
use Rattle.query_rules.specs.declared.row.RuleRow.{RuleRow}

abbrev pub proxy_lines : List ℕ
proxy_lines = codes "[proxy]\nlisten = '127.0.0.1:3306'\nadmin_listen = '127.0.0.1:6032'\n"

abbrev pub login_lines : List ℕ
login_lines = codes "admin_user = 'admin'\nadmin_password = 'admin'\nserver_version = '8'\n"

abbrev pub user_lines : List ℕ
user_lines = codes "[[users]]\nname = 'app'\npassword = ''\n"

abbrev pub home_lines : List ℕ
home_lines = codes "[[servers]]\nhostgroup = 0\nhost = '127.0.0.1'\nport = 3306\n"

abbrev pub other_lines : List ℕ
other_lines = codes "[[servers]]\nhostgroup = 1\nhost = '127.0.0.1'\nport = 3307\n"

abbrev pub rule_lines : List ℕ
rule_lines = codes "[[rules]]\nrule_id = 1\nusername = 'app'\ndestination_hostgroup = 1\napply = 1\n"

abbrev pub file : List ℕ
file = proxy_lines ++ (login_lines ++ (user_lines ++ (home_lines ++ (other_lines ++ (rule_lines)))))

-- What it says.

abbrev pub at_port : (port : ℕ) → Address
at_port port = record { ip = 127 ∷ 0 ∷ 0 ∷ 1 ∷ []; port = port }

abbrev pub schema : List ℕ
schema = codes "information_schema"

abbrev pub proxy : ProxyRow
proxy = record {
  listen = at_port 3306;
  admin_listen = at_port 6032;
  admin_user = codes "admin";
  admin_password = codes "admin";
  server_version = codes "8";
  default_schema = schema;
  max_clients = 1000;
  max_packet = 67108864;
  buffer_budget = 1073741824;
  wait_ms = 10000;
  idle_ms = 600000;
}

abbrev pub home : Hostgroup
home = record { 0 = 0 }

abbrev pub others : Hostgroup
others = record { 0 = 1 }

abbrev pub server_in : Hostgroup → (port : ℕ) → ServerRow
server_in hostgroup port =
    record { hostgroup = hostgroup; address = at_port port; weight = 1; max_connections = 100; status = Online }

-- the user's statements go to the other hostgroup
abbrev pub row : RuleRow
row = record {
  rule_id = 1;
  active = true;
  username = Some (codes "app");
  schemaname = None;
  flagIN = 0;
  digest = None;
  match_digest = None;
  match_pattern = None;
  negate_match_pattern = false;
  flagOUT = None;
  replace_pattern = None;
  destination_hostgroup = Some others;
  next_query_flagIN = None;
  multiplex = None;
  error_msg = None;
  OK_msg = None;
  apply = true;
}

abbrev pub config : Config
config = record {
  proxy = proxy;
  users = record { name = codes "app"; password = []; default_hostgroup = home; whitelist = false } ∷ [];
  servers = server_in home 3306 ∷ server_in others 3307 ∷ [];
  rules = row ∷ [];
  whitelist = [];
}
