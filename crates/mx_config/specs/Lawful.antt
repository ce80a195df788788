-- Configurations in which nothing is out of range, as every one is that was read.
use Rattle.std.specs.Prelude.{◌≡◌, ℕ, ◌+◌, ◌≤◌, true, false, List, [], ◌∷◌, ◌++◌, length, map, All, None}
use Rattle.hostgroups.specs.Rows.{name_of, number_of, connections_of, first_fault}
use Rattle.hostgroups.specs.declared.row.ServerRow.{ServerRow}
use Rattle.mx_config.specs.declared.config.Config.{Config}
use Rattle.mx_config.specs.declared.config.ProxyRow.{ProxyRow}
use Rattle.mx_config.specs.declared.proxy.ProxyTexts.{ProxyTexts}
use Rattle.mx_config.specs.declared.proxy.ProxyLimits.{ProxyLimits}
use Rattle.mx_config.specs.declared.config.UserRow.{UserRow}
use Rattle.mx_config.specs.declared.value.TextForm.TheVariants.{Any, NotEmpty, Short}
use Rattle.query_rules.specs.Rows.{replaces_nothing}
use Rattle.query_rules.specs.declared.row.RuleRow.{RuleRow}
use Rattle.mx_config.specs.RuleRows.{AreLawfulKeys, has_rule}
use Rattle.mx_config.specs.Tables.{has_user}
use Rattle.mx_config.specs.Values.{fits}

abbrev pub IsBetween : (least most : ℕ) → ℕ → Type 0
IsBetween least most n = (least ≤ n) × (n ≤ most)

pub record AreLawfulTexts (t : ProxyTexts) : Type 0 where
  pub admin_user : fits NotEmpty t.admin_user ≡ true
  pub admin_password : fits Any t.admin_password ≡ true
  pub server_version : fits Short t.server_version ≡ true
  pub default_schema : fits Any t.default_schema ≡ true

pub record AreLawfulLimits (l : ProxyLimits) : Type 0 where
  pub max_clients : IsBetween 1 4000 l.max_clients
  pub max_packet : IsBetween 1024 268435456 l.max_packet
  pub buffer_budget : IsBetween 1048576 2147483648 l.buffer_budget
  pub wait_ms : IsBetween 1 3600000 l.wait_ms
  pub idle_ms : IsBetween 1 86400000 l.idle_ms

pub record IsLawfulProxy (p : ProxyRow) : Type 0 where
  pub admin_user : fits NotEmpty p.admin_user ≡ true
  pub admin_password : fits Any p.admin_password ≡ true
  pub server_version : fits Short p.server_version ≡ true
  pub default_schema : fits Any p.default_schema ≡ true
  pub max_clients : IsBetween 1 4000 p.max_clients
  pub max_packet : IsBetween 1024 268435456 p.max_packet
  pub buffer_budget : IsBetween 1048576 2147483648 p.buffer_budget
  pub wait_ms : IsBetween 1 3600000 p.wait_ms
  pub idle_ms : IsBetween 1 86400000 p.idle_ms

-- a user behind these
pub record IsLawfulUser (before : List UserRow) (row : UserRow) : Type 0 where
  pub name : fits NotEmpty row.name ≡ true
  pub password : fits Any row.password ≡ true
  pub new : has_user before row.name ≡ false

-- a server behind these: it is new, and the connections stay few
pub record IsLawfulServer (before : List ServerRow) (row : ServerRow) : Type 0 where
  pub weight : IsBetween 1 1000 row.weight
  pub max_connections : IsBetween 1 10000 row.max_connections
  pub new : number_of (map name_of before) (name_of row) ≡ None
  pub few : connections_of before + row.max_connections ≤ 10000

-- each of the rows stands so to those before it
abbrev pub EachBehind : {X : Type 0} → (R : List X → X → Type 0) → (before rows : List X) → Type 0
EachBehind R before [] = Unit {0}
EachBehind R before (row ∷ rows) = R before row × EachBehind R (before ++ row ∷ []) rows

pub record AreLawfulUsers (rows : List UserRow) : Type 0 where
  pub count : IsBetween 1 1024 (length rows)
  pub each : EachBehind IsLawfulUser [] rows

-- a table of servers can be made of the rows
pub record AreLawfulServers (rows : List ServerRow) : Type 0 where
  pub each : EachBehind IsLawfulServer [] rows
  pub weights : All (λ row. 1 ≤ row.weight) rows
  pub stand : first_fault rows ≡ None

-- a rule behind these: it is new, and its texts, patterns and template can stand
pub record IsLawfulRule (before : List RuleRow) (row : RuleRow) : Type 0 where
  pub keys : AreLawfulKeys row
  pub replaces : replaces_nothing row ≡ false
  pub new : has_rule before row.rule_id ≡ false

pub record AreLawfulRules (rows : List RuleRow) : Type 0 where
  pub count : length rows ≤ 10000
  pub each : EachBehind IsLawfulRule [] rows

pub record IsLawful (config : Config) : Type 0 where
  pub proxy : IsLawfulProxy config.proxy
  pub users : AreLawfulUsers config.users
  pub servers : AreLawfulServers config.servers
  pub rules : AreLawfulRules config.rules
