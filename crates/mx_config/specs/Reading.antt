-- What a configuration file says.
use Rattle.std.specs.Prelude.{ℕ, ◌&&◌, Bool, nat_le, if◌then◌else◌, List, [], ◌∷◌, codes, Option, Some, None, Ok, Err}
use Rattle.std.specs.Str.{is_utf8}
use Rattle.toml.specs.Data.{Data, Items, Members, no_members, get_member, as_array}
use Rattle.toml.specs.Parse.{parse_document}
use Rattle.hostgroups.specs.declared.row.ServerRow.{ServerRow}
use Rattle.mx_config.specs.declared.config.Config.{Config}
use Rattle.mx_config.specs.declared.config.ProxyRow.{ProxyRow}
use Rattle.mx_config.specs.declared.config.UserRow.{UserRow}
use Rattle.mx_config.specs.declared.fault.Kind.TheVariants.{NotToml, MissingKey, WrongType, OutOfRange}
use Rattle.mx_config.specs.declared.fault.Place.{Place}
use Rattle.mx_config.specs.declared.fault.TableName.TheVariants.{File, Proxy, Users, Servers, Rules, Whitelist}
use Rattle.mx_config.specs.Faults.{Said, ◌>>=◌, at_row, fault_at}
use Rattle.query_rules.specs.declared.row.RuleRow.{RuleRow}
use Rattle.mx_config.specs.RuleRows.{rule_row}
use Rattle.mx_config.specs.Rows.{known_only, table_at}
use Rattle.sql_whitelist.specs.declared.row.ListRow.{ListRow}
use Rattle.mx_config.specs.Lists.{list_row}
use Rattle.mx_config.specs.Tables.{count, proxy_row, user_row, server_row, rows_from}

abbrev pub few_rows : Place → (least most : ℕ) → Option Items → Said Items
few_rows place least most None = Err (fault_at place WrongType [])
few_rows place least most (Some ds) = if nat_le least (count ds) && nat_le (count ds) most then Ok ds else Err
    (fault_at place OutOfRange [])

-- the rows of a table that has at least and at most so many
unfoldable pub rows_at : Place → (least most : ℕ) → Data → Said Items
rows_at place least most d = few_rows place least most (as_array d)

-- a missing table `proxy` is an empty one
abbrev pub proxy_of : Option Data → Said ProxyRow
proxy_of None = proxy_row no_members
proxy_of (Some d) = table_at (at_row Proxy 0) d >>= proxy_row

-- there is at least one user
abbrev pub users_of : Option Data → Said (List UserRow)
users_of None = Err (fault_at (at_row Users 0) MissingKey (codes "users"))
users_of (Some d) = rows_at (at_row Users 0) 1 1024 d >>= rows_from user_row []

-- there may be no server
abbrev pub servers_of : Option Data → Said (List ServerRow)
servers_of None = Ok []
servers_of (Some d) = rows_at (at_row Servers 0) 0 1024 d >>= rows_from server_row []

-- there may be no rule
abbrev pub rules_of : (is_pattern : List ℕ → Bool) → Option Data → Said (List RuleRow)
rules_of is_pattern None = Ok []
rules_of is_pattern (Some d) = rows_at (at_row Rules 0) 0 10000 d >>= rows_from (rule_row is_pattern) []

-- there may be no list
abbrev pub lists_of : Option Data → Said (List ListRow)
lists_of None = Ok []
lists_of (Some d) = rows_at (at_row Whitelist 0) 0 1024 d >>= rows_from list_row []

abbrev pub table_names : List (List ℕ)
table_names = codes "proxy" ∷ codes "users" ∷ codes "servers" ∷ codes "rules" ∷ codes "whitelist" ∷ []

-- the configuration of a document, or its first fault: unknown tables come first, then the tables in order; a test tells
-- which texts are patterns
unfoldable pub config_of : (is_pattern : List ℕ → Bool) → Members → Said Config
config_of is_pattern file = do
  only ← known_only (at_row File 0) table_names file
  proxy ← proxy_of (get_member (codes "proxy") file)
  users ← users_of (get_member (codes "users") file)
  servers ← servers_of (get_member (codes "servers") file)
  rules ← rules_of is_pattern (get_member (codes "rules") file)
  whitelist ← lists_of (get_member (codes "whitelist") file)
  Ok (record { proxy = proxy; users = users; servers = servers; rules = rules; whitelist = whitelist })

abbrev pub config_in : (is_pattern : List ℕ → Bool) → Option Members → Said Config
config_in is_pattern None = Err (fault_at (at_row File 0) NotToml [])
config_in is_pattern (Some file) = config_of is_pattern file

-- the document of a file, whose bytes have to be UTF-8
abbrev pub document_of : List ℕ → Option Members
document_of bytes = if is_utf8 bytes then parse_document bytes else None

-- what a file says, or its first fault
abbrev pub reading_of : (is_pattern : List ℕ → Bool) → List ℕ → Said Config
reading_of is_pattern bytes = config_in is_pattern (document_of bytes)
