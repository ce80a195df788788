-- The staged tables, and what a statement makes of them. A statement that has no table here is refused, and changes nothing.
use Rattle.std.specs.Prelude.{ℕ, ◌&&◌, ◌||◌, nat_eq, nat_le, nat_lt, Bool, false, if◌then◌else◌, List, [], ◌∷◌, ◌++◌, codes, bytes_eq, length, position, slice_get, slice_set, is_none, unwrap_or, Option, Some, None, option_map}
use Rattle.std.specs.List.{insert, list_any, remove}
use Rattle.hostgroups.specs.Rows.{first_fault}
use Rattle.hostgroups.specs.declared.row.ServerRow.{ServerRow}
use Rattle.mx_base.specs.Steps.{◌>>=◌}
use Rattle.mx_config.specs.Address.{ipv4}
use Rattle.mx_config.specs.RuleRows.{has_rule}
use Rattle.query_rules.specs.declared.row.RuleRow.{RuleRow}
use Rattle.sql_tokens.specs.Words.{same_text}
use Rattle.admin_port.specs.Columns.{is_among}
use Rattle.admin_port.specs.RowValues.{rule_pairs, rule_said, server_pairs, server_said}
use Rattle.admin_port.specs.declared.pair.Pair.{Pair}
use Rattle.admin_port.specs.declared.statement.Action.{Action}
use Rattle.admin_port.specs.declared.statement.Action.TheVariants.{Insert, Update, Delete}
use Rattle.admin_port.specs.declared.statement.Change.{Change}
use Rattle.admin_port.specs.declared.statement.Key.{Key}
use Rattle.admin_port.specs.declared.statement.Key.TheVariants.{All, Rule, Server}
use Rattle.admin_port.specs.declared.statement.ServerKey.{ServerKey}
use Rattle.admin_port.specs.declared.statement.StagedTable.{StagedTable}
use Rattle.admin_port.specs.declared.statement.StagedTable.TheVariants.{Servers, Rules}

-- the rows of servers in their order, and those of rules in the order of their numbers
pub record StagedRows : Type 0 where
  pub servers : List ServerRow
  pub rules : List RuleRow

abbrev pub is_key_column : StagedTable → (column : List ℕ) → Bool
is_key_column Servers column = is_among (codes "hostgroup_id" ∷ codes "hostname" ∷ codes "port" ∷ []) column
is_key_column Rules column = same_text column (codes "rule_id")

-- the statement would change a key
abbrev pub sets_key : StagedTable → List Pair → Bool
sets_key table pairs = list_any (λ pair. is_key_column table pair.column) pairs

-- Servers.

abbrev pub is_host : Option (List ℕ) → (ip : List ℕ) → Bool
is_host None ip = false
is_host (Some host) ip = bytes_eq ip host

abbrev pub is_server : ServerKey → ServerRow → Bool
is_server key row = nat_eq row.hostgroup.0 key.hostgroup && (is_host (ipv4 key.host) row.address.ip && nat_eq row.address.port key.port)

-- a table of servers can be made of the rows: none stands twice, there are at most 1,024, and at most 10,000 connections in all
abbrev pub settled : List ServerRow → Option (List ServerRow)
settled rows = if is_none (first_fault rows) then Some rows else None

abbrev pub with_server : (patterned : Bool) → List ServerRow → List Pair → Option (List ServerRow)
with_server patterned rows pairs = server_said patterned pairs >>= (λ row. settled (rows ++ row ∷ []))

-- the row with these values in place of its own
abbrev pub server_set : (patterned : Bool) → ServerRow → List Pair → Option ServerRow
server_set patterned row pairs = server_said patterned (server_pairs row ++ pairs)

abbrev pub server_set_at : (patterned : Bool) → List ServerRow → List Pair → (at : ℕ) → Option (List ServerRow)
server_set_at patterned rows pairs at = slice_get rows at >>= (λ row. server_set patterned row pairs >>= (λ new. settled (slice_set rows at new)))

abbrev pub servers_set : (patterned : Bool) → List ServerRow → ServerKey → List Pair → Option (List ServerRow)
servers_set patterned rows key pairs =
    if sets_key Servers pairs then None else position (is_server key) rows >>= server_set_at patterned rows pairs

abbrev pub servers_left : List ServerRow → ServerKey → Option (List ServerRow)
servers_left rows key = option_map (remove rows) (position (is_server key) rows)

-- Rules.

abbrev pub is_rule : (id : ℕ) → RuleRow → Bool
is_rule id row = nat_eq row.rule_id id

-- the place of the first rule of a higher number
abbrev pub place_above : List RuleRow → (id : ℕ) → Option ℕ
place_above rows id = position (λ row. nat_lt id row.rule_id) rows

-- the place of a number among rules that stand in the order of theirs: before the first of a higher one, or behind all
abbrev pub rule_place : List RuleRow → (id : ℕ) → ℕ
rule_place rows id = unwrap_or (place_above rows id) (length rows)

-- no rule has the number, and there are fewer than 10,000
abbrev pub with_rule_row : List RuleRow → RuleRow → Option (List RuleRow)
with_rule_row rows row = if has_rule rows row.rule_id || nat_le 10000 (length rows) then None else Some (insert rows (rule_place rows row.rule_id) row)

-- these rules, with those of the rows put in their places
abbrev pub with_rules : List RuleRow → (rows : List RuleRow) → Option (List RuleRow)
with_rules staged [] = Some staged
with_rules staged (row ∷ rows) = with_rule_row staged row >>= (λ next. with_rules next rows)

abbrev pub with_rule : (patterned : Bool) → List RuleRow → List Pair → Option (List RuleRow)
with_rule patterned rows pairs = rule_said patterned pairs >>= with_rule_row rows

abbrev pub rule_set : (patterned : Bool) → RuleRow → List Pair → Option RuleRow
rule_set patterned row pairs = rule_said patterned (rule_pairs row ++ pairs)

abbrev pub rule_set_at : (patterned : Bool) → List RuleRow → List Pair → (at : ℕ) → Option (List RuleRow)
rule_set_at patterned rows pairs at = slice_get rows at >>= (λ row. option_map (slice_set rows at) (rule_set patterned row pairs))

abbrev pub rules_set : (patterned : Bool) → List RuleRow → (id : ℕ) → List Pair → Option (List RuleRow)
rules_set patterned rows id pairs = if sets_key Rules pairs then None else position (is_rule id) rows >>= rule_set_at patterned rows pairs

abbrev pub rules_left : List RuleRow → (id : ℕ) → Option (List RuleRow)
rules_left rows id = option_map (remove rows) (position (is_rule id) rows)

-- Statements.

abbrev pub servers_to : StagedRows → Option (List ServerRow) → Option StagedRows
servers_to s rows = option_map (λ servers. record s { servers = servers }) rows

abbrev pub rules_to : StagedRows → Option (List RuleRow) → Option StagedRows
rules_to s rows = option_map (λ rules. record s { rules = rules }) rows

abbrev pub inserted : (patterned : Bool) → StagedRows → StagedTable → List Pair → Option StagedRows
inserted patterned s Servers pairs = servers_to s (with_server patterned s.servers pairs)
inserted patterned s Rules pairs = rules_to s (with_rule patterned s.rules pairs)

abbrev pub updated : (patterned : Bool) → StagedRows → Key → List Pair → Option StagedRows
updated patterned s (Server key) pairs = servers_to s (servers_set patterned s.servers key pairs)
updated patterned s (Rule id) pairs = rules_to s (rules_set patterned s.rules id pairs)
updated patterned s All pairs = None

abbrev pub cleared : StagedRows → StagedTable → StagedRows
cleared s Servers = record s { servers = [] }
cleared s Rules = record s { rules = [] }

abbrev pub deleted : StagedRows → StagedTable → Key → Option StagedRows
deleted s table (Server key) = servers_to s (servers_left s.servers key)
deleted s table (Rule id) = rules_to s (rules_left s.rules id)
deleted s table All = Some (cleared s table)

-- what a statement makes of the staged tables
abbrev pub changed : (patterned : Bool) → StagedRows → Action → Change → Option StagedRows
changed patterned s Insert change = inserted patterned s change.table change.pairs
changed patterned s Update change = updated patterned s change.key change.pairs
changed patterned s Delete change = deleted s change.table change.key
