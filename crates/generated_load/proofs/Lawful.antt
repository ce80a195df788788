-- The configuration of a load could be read.
use Rattle.std.proofs.Common.{◌≡◌, ◌≤◌, [], ◌∷◌, All, refl, arith, rules}
use Rattle.std.proofs.lemmas.List.Elements.{All-cons, All-nil}
use Rattle.hostgroups.specs.declared.row.ServerRow.{ServerRow}
use Rattle.mx_config.specs.Lawful.{AreLawfulRules, AreLawfulServers, AreLawfulUsers, IsBetween, IsLawful, IsLawfulProxy}
use Rattle.mx_config.specs.declared.config.Config.{Config}
use Rattle.generated_load.specs.Configs.{load_config, proxy_row, server_row, user_row}

lawful-proxy : IsLawfulProxy proxy_row
lawful-proxy = record {
  admin_user = refl;
  admin_password = refl;
  server_version = refl;
  default_schema = refl;
  max_clients = (omega arith, omega arith);
  max_packet = (omega arith, omega arith);
  buffer_budget = (omega arith, omega arith);
  wait_ms = (omega arith, omega arith);
  idle_ms = (omega arith, omega arith);
}

lawful-users : AreLawfulUsers (user_row ∷ [])
lawful-users = record { count = (omega arith, omega arith); each = (record { name = refl; password = refl; new = refl }, tt) }

lawful-servers : AreLawfulServers (server_row ∷ [])
lawful-servers = record {
  each = (record { weight = (omega arith, omega arith); max_connections = (omega arith, omega arith); new = refl; few = omega arith }, tt);
  weights = All-cons (λ (row : ServerRow). 1 ≤ row.weight) server_row [] (omega arith) (All-nil (λ (row : ServerRow). 1 ≤ row.weight));
  stand = refl;
}

lawful-rules : AreLawfulRules []
lawful-rules = record { count = omega arith; each = tt }

pub lawful : (config : Config) → config ≡ load_config → IsLawful config
lawful config is = rw is (record { proxy = lawful-proxy; users = lawful-users; servers = lawful-servers; rules = lawful-rules })
