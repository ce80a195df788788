-- What an administrator may say, by its tokens.
use Rattle.std.specs.Prelude.{ℕ, ◌&&◌, ◌||◌, Bool, nat_eq, List, [], ◌∷◌, codes, length, is_some, Option, Some, None, option_map, if◌then◌else◌}
use Rattle.mx_base.specs.Decimal.{number}
use Rattle.mx_base.specs.Steps.{◌>>=◌}
use Rattle.sql_tokens.specs.Words.{bytes_of, same_text}
use Rattle.sql_tokens.specs.declared.token.Token.{Token}
use Rattle.admin_port.specs.Pairs.{assigned, names_from, pairs_from, zipped_from}
use Rattle.admin_port.specs.Values.{value_of}
use Rattle.admin_port.specs.Words.{behind, cut, is_phrase, reads, statement_tokens}
use Rattle.admin_port.specs.declared.pair.Pair.{Pair}
use Rattle.admin_port.specs.declared.value.Value.{Value}
use Rattle.admin_port.specs.declared.value.Value.TheVariants as values
use Rattle.admin_port.specs.declared.statement.Action.TheVariants.{Insert, Update, Delete}
use Rattle.admin_port.specs.declared.statement.Key.{Key}
use Rattle.admin_port.specs.declared.statement.Key.TheVariants as keys
use Rattle.admin_port.specs.declared.statement.Picked.{Picked}
use Rattle.admin_port.specs.declared.statement.Picked.TheVariants as picks
use Rattle.admin_port.specs.declared.statement.ShownTable.{ShownTable}
use Rattle.admin_port.specs.declared.statement.ShownTable.TheVariants as shown
use Rattle.admin_port.specs.declared.statement.StagedTable.{StagedTable}
use Rattle.admin_port.specs.declared.statement.StagedTable.TheVariants as staged
use Rattle.admin_port.specs.declared.statement.Statement.{Statement}
use Rattle.admin_port.specs.declared.statement.Statement.TheVariants.{Select, Stage, Load, ShowTables, ShowVariables, VersionComment, Accepted, Shutdown}

-- The names of tables, in any case.

abbrev pub staged_named : (name : List ℕ) → Option StagedTable
staged_named name =
    if same_text name (codes "mysql_servers") then Some staged.Servers
    else if same_text name (codes "mysql_query_rules") then Some staged.Rules
    else None

abbrev pub shown_named : (name : List ℕ) → Option ShownTable
shown_named name =
    if same_text name (codes "mysql_servers") then Some shown.Servers
    else if same_text name (codes "runtime_mysql_servers") then Some shown.RuntimeServers
    else if same_text name (codes "mysql_query_rules") then Some shown.Rules
    else if same_text name (codes "runtime_mysql_query_rules") then Some shown.RuntimeRules
    else if same_text name (codes "stats_mysql_query_digest") then Some shown.Digests
    else if same_text name (codes "stats_mysql_connection_pool") then Some shown.Pool
    else if same_text name (codes "stats_mysql_processlist") then Some shown.Processes
    else if same_text name (codes "stats_mysql_global") then Some shown.Totals
    else if same_text name (codes "stats_mysql_events") then Some shown.Events
    else None

-- the table that stands first, and what stands behind it
abbrev pub staged_first : (text : List ℕ) → List Token → Option (StagedTable × List Token)
staged_first text [] = None
staged_first text (name ∷ tokens) = staged_named (bytes_of text name) >>= (λ table. Some (table, tokens))

abbrev pub shown_first : (text : List ℕ) → List Token → Option (ShownTable × List Token)
shown_first text [] = None
shown_first text (name ∷ tokens) = shown_named (bytes_of text name) >>= (λ table. Some (table, tokens))

-- SELECT * | COUNT(*) | <columns> FROM <table> [WHERE <column> = <value>] [LIMIT <n>]

abbrev pub picked_of : (text : List ℕ) → List Token → Option Picked
picked_of text tokens =
    if is_phrase text (codes "*" ∷ []) tokens then Some picks.All
    else if is_phrase text (codes "COUNT" ∷ codes "(" ∷ codes "*" ∷ codes ")" ∷ []) tokens then Some picks.Count
    else option_map (λ names. picks.Columns names) (names_from text [] tokens)

abbrev pub number_alone : (text : List ℕ) → List Token → Option ℕ
number_alone text [] = None
number_alone text (token ∷ tokens) = if nat_eq (length tokens) 0 then number (bytes_of text token) else None

abbrev pub limited : (text : List ℕ) → List Token → Option (List Token × List Token) → Option (List Token × Option ℕ)
limited text tokens None = Some (tokens, None)
limited text tokens (Some parts) = number_alone text parts.1 >>= (λ n. Some (parts.0, Some n))

-- what stands before LIMIT, and its number
abbrev pub limit_of : (text : List ℕ) → List Token → Option (List Token × Option ℕ)
limit_of text tokens = limited text tokens (cut text (codes "LIMIT") tokens)

-- <column> = <value>, and no more
abbrev pub alone : (text : List ℕ) → List Token → Option Pair
alone text (column ∷ equals ∷ value ∷ []) = assigned text column equals value
alone text _ = None

abbrev pub condition_of : (text : List ℕ) → List Token → Option (Option Pair)
condition_of text [] = Some None
condition_of text (word ∷ tokens) = if reads text word (codes "WHERE") then option_map (λ pair. Some pair) (alone text tokens) else None

pub record QueryParts : Type 0 where
  pub picked : List Token
  pub table : ShownTable
  pub condition : List Token
  pub limit : Option ℕ

abbrev pub query_parts : (text : List ℕ) → List Token → Option QueryParts
query_parts text tokens = do
  parts ← cut text (codes "FROM") tokens
  table ← shown_first text parts.1
  rest ← limit_of text table.1
  Some (record { picked = parts.0; table = table.0; condition = rest.0; limit = rest.1 })

abbrev pub query_of : (text : List ℕ) → List Token → Option Statement
query_of text tokens = do
  parts ← query_parts text tokens
  picked ← picked_of text parts.picked
  condition ← condition_of text parts.condition
  Some (Select (record { table = parts.table; picked = picked; condition = condition; limit = parts.limit }))

abbrev pub select_of : (text : List ℕ) → List Token → Option Statement
select_of text tokens =
    if is_phrase text (codes "@@version_comment" ∷ codes "LIMIT" ∷ codes "1" ∷ []) tokens then Some VersionComment else query_of text tokens

-- INSERT INTO <table> (<columns>) VALUES (<values>)

pub record InsertParts : Type 0 where
  pub table : StagedTable
  pub columns : List Token
  pub values : List Token

-- what stands before the `)` that ends the statement
abbrev pub before_bracket : (text : List ℕ) → List Token → Option (List Token)
before_bracket text tokens = cut text (codes ")") tokens >>= (λ parts. if nat_eq (length parts.1) 0 then Some parts.0 else None)

abbrev pub insert_parts : (text : List ℕ) → List Token → Option InsertParts
insert_parts text tokens = do
  into ← behind text (codes "INTO" ∷ []) tokens
  table ← staged_first text into
  inside ← behind text (codes "(" ∷ []) table.1
  columns ← cut text (codes ")") inside
  rest ← behind text (codes "VALUES" ∷ codes "(" ∷ []) columns.1
  values ← before_bracket text rest
  Some (record { table = table.0; columns = columns.0; values = values })

abbrev pub insert_of : (text : List ℕ) → List Token → Option Statement
insert_of text tokens = do
  parts ← insert_parts text tokens
  pairs ← zipped_from text [] parts.columns parts.values
  Some (Stage Insert (record { table = parts.table; pairs = pairs; key = keys.All }))

-- <key>: rule_id = <n>, or hostgroup_id = <n> AND hostname = <text> AND port = <n>

abbrev pub number_in : Value → Option ℕ
number_in (values.Number digits) = number digits
number_in _ = None

abbrev pub text_in : Value → Option (List ℕ)
text_in (values.Text text) = Some text
text_in _ = None

abbrev pub server_key : (hostgroup host port : Value) → Option Key
server_key hostgroup host port = do
  h ← number_in hostgroup
  name ← text_in host
  p ← number_in port
  Some (keys.Server (record { hostgroup = h; host = name; port = p }))

abbrev pub key_in : StagedTable → List Pair → Option Key
key_in staged.Rules (id ∷ []) = if same_text id.column (codes "rule_id") then option_map (λ n. keys.Rule n) (number_in id.value) else None
key_in staged.Servers (hostgroup ∷ host ∷ port ∷ []) =
    if same_text hostgroup.column (codes "hostgroup_id") && (same_text host.column (codes "hostname") && same_text port.column (codes "port"))
    then server_key hostgroup.value host.value port.value else None
key_in table _ = None

abbrev pub key_of : (text : List ℕ) → StagedTable → List Token → Option Key
key_of text table tokens = pairs_from text (codes "AND") [] tokens >>= key_in table

-- UPDATE <table> SET <assignments> WHERE <key>

pub record UpdateParts : Type 0 where
  pub table : StagedTable
  pub assignments : List Token
  pub key : List Token

abbrev pub update_parts : (text : List ℕ) → List Token → Option UpdateParts
update_parts text tokens = do
  table ← staged_first text tokens
  set ← behind text (codes "SET" ∷ []) table.1
  parts ← cut text (codes "WHERE") set
  Some (record { table = table.0; assignments = parts.0; key = parts.1 })

abbrev pub update_of : (text : List ℕ) → List Token → Option Statement
update_of text tokens = do
  parts ← update_parts text tokens
  pairs ← pairs_from text (codes ",") [] parts.assignments
  key ← key_of text parts.table parts.key
  Some (Stage Update (record { table = parts.table; pairs = pairs; key = key }))

-- DELETE FROM <table> [WHERE <key>]

abbrev pub delete_key : (text : List ℕ) → StagedTable → List Token → Option Key
delete_key text table [] = Some keys.All
delete_key text table (word ∷ tokens) = if reads text word (codes "WHERE") then key_of text table tokens else None

abbrev pub delete_of : (text : List ℕ) → List Token → Option Statement
delete_of text tokens = do
  from ← behind text (codes "FROM" ∷ []) tokens
  table ← staged_first text from
  key ← delete_key text table.0 table.1
  Some (Stage Delete (record { table = table.0; pairs = []; key = key }))

-- LOAD MYSQL QUERY RULES TO RUNTIME, LOAD MYSQL SERVERS TO RUNTIME
abbrev pub load_of : (text : List ℕ) → List Token → Option Statement
load_of text tokens =
    if is_phrase text (codes "MYSQL" ∷ codes "QUERY" ∷ codes "RULES" ∷ codes "TO" ∷ codes "RUNTIME" ∷ []) tokens then Some (Load staged.Rules)
    else if is_phrase text (codes "MYSQL" ∷ codes "SERVERS" ∷ codes "TO" ∷ codes "RUNTIME" ∷ []) tokens then Some (Load staged.Servers)
    else None

-- SHOW TABLES, SHOW VARIABLES [LIKE <text>]

abbrev pub pattern_in : Option Value → Option Statement
pattern_in (Some (values.Text text)) = Some (ShowVariables (Some text))
pattern_in _ = None

abbrev pub pattern_of : (text : List ℕ) → List Token → Option Statement
pattern_of text [] = None
pattern_of text (pattern ∷ tokens) = if nat_eq (length tokens) 0 then pattern_in (value_of text pattern) else None

abbrev pub like_of : (text : List ℕ) → List Token → Option Statement
like_of text tokens = behind text (codes "VARIABLES" ∷ codes "LIKE" ∷ []) tokens >>= pattern_of text

abbrev pub show_of : (text : List ℕ) → List Token → Option Statement
show_of text tokens =
    if is_phrase text (codes "TABLES" ∷ []) tokens then Some ShowTables
    else if is_phrase text (codes "VARIABLES" ∷ []) tokens then Some (ShowVariables None)
    else like_of text tokens

-- What clients send of habit: BEGIN, COMMIT, ROLLBACK, START TRANSACTION, and SET of NAMES, AUTOCOMMIT, character_set_results and
-- SQL_AUTO_IS_NULL, whatever stands behind that.

abbrev pub begins : (text : List ℕ) → List Token → (words : List (List ℕ)) → Bool
begins text tokens words = is_some (behind text words tokens)

abbrev pub is_habit : (text : List ℕ) → List Token → Bool
is_habit text tokens =
    is_phrase text (codes "BEGIN" ∷ []) tokens || (is_phrase text (codes "COMMIT" ∷ []) tokens || (is_phrase text (codes "ROLLBACK" ∷ []) tokens
    || (is_phrase text (codes "START" ∷ codes "TRANSACTION" ∷ []) tokens || (begins text tokens (codes "SET" ∷ codes "NAMES" ∷ [])
    || (begins text tokens (codes "SET" ∷ codes "AUTOCOMMIT" ∷ []) || (begins text tokens (codes "SET" ∷ codes "character_set_results" ∷ [])
    || begins text tokens (codes "SET" ∷ codes "SQL_AUTO_IS_NULL" ∷ [])))))))

abbrev pub other_of : (text : List ℕ) → List Token → Option Statement
other_of text tokens =
    if is_phrase text (codes "PROXYSQL" ∷ codes "SHUTDOWN" ∷ []) tokens then Some Shutdown
    else if is_habit text tokens then Some Accepted
    else None

abbrev pub by_first : (text : List ℕ) → List Token → Option Statement
by_first text [] = None
by_first text (first ∷ tokens) =
    if reads text first (codes "SELECT") then select_of text tokens
    else if reads text first (codes "INSERT") then insert_of text tokens
    else if reads text first (codes "UPDATE") then update_of text tokens
    else if reads text first (codes "DELETE") then delete_of text tokens
    else if reads text first (codes "LOAD") then load_of text tokens
    else if reads text first (codes "SHOW") then show_of text tokens
    else other_of text (first ∷ tokens)

-- the statement that a text is, if it is one
abbrev pub statement_of : (text : List ℕ) → Option Statement
statement_of text = by_first text (statement_tokens text)
