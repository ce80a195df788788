-- The rows of the staged tables: what the values of columns make of them, and their values in the order of the columns.
use Rattle.std.specs.Prelude.{ℕ, ◌&&◌, Bool, true, false, if◌then◌else◌, List, [], ◌∷◌, ◌++◌, codes, slice_index_or, Option, Some, None, option_map, unwrap_or}
use Rattle.std.specs.Fmt.{decimal}
use Rattle.std.specs.Int.{to_be_bytes, w64}
use Rattle.hex.specs.Hex.{encode_upper}
use Rattle.hostgroups.specs.declared.row.ServerRow.{ServerRow}
use Rattle.hostgroups.specs.declared.row.ServerStatus.{ServerStatus}
use Rattle.hostgroups.specs.declared.row.ServerStatus.TheVariants.{Online, OfflineSoft, OfflineHard, Shunned}
use Rattle.mx_base.specs.declared.names.Hostgroup.{Hostgroup}
use Rattle.query_rules.specs.Rows.{replaces_nothing}
use Rattle.query_rules.specs.declared.row.RuleRow.{RuleRow}
use Rattle.admin_port.specs.Columns.{are_columns, digest_at, has_value, host_at, number_at, small_at, status_at, switch_at, text_at}
use Rattle.admin_port.specs.declared.pair.Pair.{Pair}
use Rattle.admin_port.specs.declared.statement.StagedTable.TheVariants.{Servers, Rules}
use Rattle.admin_port.specs.declared.value.Value.{Value}
use Rattle.admin_port.specs.declared.value.Value.TheVariants.{Number, Text, Null}

-- Rows of values.

abbrev pub server_from : List Pair → ServerRow
server_from pairs = record {
  hostgroup = record { 0 = number_at (codes "hostgroup_id") 0 0 65535 pairs };
  address = record { ip = host_at (codes "hostname") pairs; port = number_at (codes "port") 0 0 65535 pairs };
  weight = number_at (codes "weight") 1 1 1000 pairs;
  max_connections = number_at (codes "max_connections") 100 1 10000 pairs;
  status = status_at (codes "status") pairs;
}

abbrev pub has_server_key : List Pair → Bool
has_server_key pairs = has_value (codes "hostgroup_id") pairs && (has_value (codes "hostname") pairs && has_value (codes "port") pairs)

-- the server that the values of columns make, if they make one
abbrev pub server_said : (patterned : Bool) → List Pair → Option ServerRow
server_said patterned pairs = if are_columns patterned Servers pairs && has_server_key pairs then Some (server_from pairs) else None

abbrev pub hostgroup_of : Option ℕ → Option Hostgroup
hostgroup_of number = option_map (λ n. record { 0 = n }) number

abbrev pub rule_from : List Pair → RuleRow
rule_from pairs = record {
  rule_id = number_at (codes "rule_id") 1 1 4294967295 pairs;
  active = unwrap_or (switch_at (codes "active") pairs) true;
  username = text_at (codes "username") pairs;
  schemaname = text_at (codes "schemaname") pairs;
  flagIN = number_at (codes "flagIN") 0 0 65535 pairs;
  digest = digest_at (codes "digest") pairs;
  match_digest = text_at (codes "match_digest") pairs;
  match_pattern = text_at (codes "match_pattern") pairs;
  negate_match_pattern = unwrap_or (switch_at (codes "negate_match_pattern") pairs) false;
  flagOUT = small_at (codes "flagOUT") pairs;
  replace_pattern = text_at (codes "replace_pattern") pairs;
  destination_hostgroup = hostgroup_of (small_at (codes "destination_hostgroup") pairs);
  next_query_flagIN = small_at (codes "next_query_flagIN") pairs;
  multiplex = switch_at (codes "multiplex") pairs;
  error_msg = text_at (codes "error_msg") pairs;
  OK_msg = text_at (codes "OK_msg") pairs;
  apply = unwrap_or (switch_at (codes "apply") pairs) false;
}

abbrev pub if_replaces : RuleRow → Option RuleRow
if_replaces row = if replaces_nothing row then None else Some row

-- the rule that the values of columns make, if they make one
abbrev pub rule_said : (patterned : Bool) → List Pair → Option RuleRow
rule_said patterned pairs = if are_columns patterned Rules pairs && has_value (codes "rule_id") pairs then if_replaces (rule_from pairs) else None

-- Values of rows.

abbrev pub number_value : ℕ → Value
number_value n = Number (decimal n)

abbrev pub small_value : Option ℕ → Value
small_value None = Null
small_value (Some n) = number_value n

abbrev pub switch_value : Bool → Value
switch_value true = Number (codes "1")
switch_value false = Number (codes "0")

abbrev pub optional_switch : Option Bool → Value
optional_switch None = Null
optional_switch (Some on) = switch_value on

abbrev pub text_value : Option (List ℕ) → Value
text_value None = Null
text_value (Some t) = Text t

-- 16 hexadecimal digits in upper case
abbrev pub hash_text : (hash : ℕ) → List ℕ
hash_text hash = encode_upper (to_be_bytes w64 hash)

abbrev pub hash_value : Option ℕ → Value
hash_value None = Null
hash_value (Some hash) = Text (hash_text hash)

abbrev pub hostgroup_value : Option Hostgroup → Value
hostgroup_value None = Null
hostgroup_value (Some hostgroup) = number_value hostgroup.0

-- a.b.c.d
abbrev pub host_text : (ip : List ℕ) → List ℕ
host_text ip = decimal (slice_index_or ip 0 0) ++ (codes "." ++ (decimal (slice_index_or ip 1 0) ++ (codes "." ++ (decimal (slice_index_or ip 2 0) ++ (codes "." ++ decimal (slice_index_or ip 3 0))))))

abbrev pub status_text : ServerStatus → List ℕ
status_text Online = codes "ONLINE"
status_text OfflineSoft = codes "OFFLINE_SOFT"
status_text OfflineHard = codes "OFFLINE_HARD"
status_text (Shunned until_ms) = codes "SHUNNED"

-- Rows as pairs of columns and values.

abbrev pub named : (column : List ℕ) → Value → Pair
named column value = record { column = column; value = value }

abbrev pub server_columns : List (List ℕ)
server_columns = codes "hostgroup_id" ∷ codes "hostname" ∷ codes "port" ∷ codes "status" ∷ codes "weight" ∷ codes "max_connections" ∷ []

abbrev pub server_pairs : ServerRow → List Pair
server_pairs row = named (codes "hostgroup_id") (number_value row.hostgroup.0) ∷ named (codes "hostname") (Text (host_text row.address.ip))
    ∷ named (codes "port") (number_value row.address.port) ∷ named (codes "status") (Text (status_text row.status))
    ∷ named (codes "weight") (number_value row.weight) ∷ named (codes "max_connections") (number_value row.max_connections) ∷ []

abbrev pub rule_columns : List (List ℕ)
rule_columns = codes "rule_id" ∷ codes "active" ∷ codes "apply" ∷ codes "negate_match_pattern" ∷ codes "username" ∷ codes "schemaname" ∷ codes "flagIN"
    ∷ codes "digest" ∷ codes "match_digest" ∷ codes "match_pattern" ∷ codes "flagOUT" ∷ codes "next_query_flagIN" ∷ codes "replace_pattern"
    ∷ codes "destination_hostgroup" ∷ codes "multiplex" ∷ codes "error_msg" ∷ codes "OK_msg" ∷ []

-- which rule it is, and how it is used
abbrev pub start_pairs : RuleRow → List Pair
start_pairs row = named (codes "rule_id") (number_value row.rule_id) ∷ named (codes "active") (switch_value row.active)
    ∷ named (codes "apply") (switch_value row.apply) ∷ named (codes "negate_match_pattern") (switch_value row.negate_match_pattern) ∷ []

-- when it is tried
abbrev pub asker_pairs : RuleRow → List Pair
asker_pairs row = named (codes "username") (text_value row.username) ∷ named (codes "schemaname") (text_value row.schemaname)
    ∷ named (codes "flagIN") (number_value row.flagIN) ∷ []

-- the texts that it is for
abbrev pub text_pairs : RuleRow → List Pair
text_pairs row = named (codes "digest") (hash_value row.digest) ∷ named (codes "match_digest") (text_value row.match_digest)
    ∷ named (codes "match_pattern") (text_value row.match_pattern) ∷ []

abbrev pub match_pairs : RuleRow → List Pair
match_pairs row = asker_pairs row ++ text_pairs row

-- what becomes of a statement
abbrev pub route_pairs : RuleRow → List Pair
route_pairs row = named (codes "flagOUT") (small_value row.flagOUT) ∷ named (codes "next_query_flagIN") (small_value row.next_query_flagIN)
    ∷ named (codes "replace_pattern") (text_value row.replace_pattern) ∷ named (codes "destination_hostgroup") (hostgroup_value row.destination_hostgroup) ∷ []

-- whether its connection is kept, and what is answered in place of a server
abbrev pub answer_pairs : RuleRow → List Pair
answer_pairs row = named (codes "multiplex") (optional_switch row.multiplex) ∷ named (codes "error_msg") (text_value row.error_msg)
    ∷ named (codes "OK_msg") (text_value row.OK_msg) ∷ []

abbrev pub effect_pairs : RuleRow → List Pair
effect_pairs row = route_pairs row ++ answer_pairs row

abbrev pub rule_pairs : RuleRow → List Pair
rule_pairs row = start_pairs row ++ (match_pairs row ++ effect_pairs row)

-- a value as it is shown
abbrev pub cell_of : Value → Option (List ℕ)
cell_of (Number digits) = Some digits
cell_of (Text t) = Some t
cell_of Null = None
