-- The columns of the staged tables: the form of each, and its value in a row.
use Rattle.std.specs.Prelude.{ℕ, ◌&&◌, ◌==◌, not, nat_le, Bool, true, false, if◌then◌else◌, List, [], ◌∷◌, codes, bytes_eq, length, Option, Some, None, Result, Ok, Err, is_some, unwrap_or}
use Rattle.std.specs.Int.{from_be_bytes, w64}
use Rattle.std.specs.List.{list_all, list_any}
use Rattle.std.specs.Option.{option_map_or}
use Rattle.hex.specs.Hex.{decode_sized}
use Rattle.hex.specs.declared.error.FromHexError.{FromHexError}
use Rattle.hostgroups.specs.declared.row.ServerStatus.{ServerStatus}
use Rattle.hostgroups.specs.declared.row.ServerStatus.TheVariants.{Online, OfflineSoft, OfflineHard}
use Rattle.mx_base.specs.Decimal.{number_to}
use Rattle.mx_base.specs.Steps.{◌>>=◌}
use Rattle.mx_config.specs.Address.{ipv4}
use Rattle.sql_tokens.specs.Words.{same_text}
use Rattle.admin_port.specs.Pairs.{given}
use Rattle.admin_port.specs.declared.column.Form.{Form}
use Rattle.admin_port.specs.declared.column.Form.TheVariants.{Number, Text, Message, Pattern, Digest, Host, Status}
use Rattle.admin_port.specs.declared.pair.Pair.{Pair}
use Rattle.admin_port.specs.declared.statement.StagedTable.{StagedTable}
use Rattle.admin_port.specs.declared.statement.StagedTable.TheVariants.{Servers, Rules}
use Rattle.admin_port.specs.declared.value.Value.{Value}
use Rattle.admin_port.specs.declared.value.Value.TheVariants as values

-- the name is one of these, in any case
abbrev pub is_among : List (List ℕ) → (name : List ℕ) → Bool
is_among names name = list_any (λ other. same_text name other) names

abbrev pub server_form : (column : List ℕ) → Option Form
server_form column =
    if is_among (codes "hostgroup_id" ∷ codes "port" ∷ []) column then Some (Number 0 65535)
    else if same_text column (codes "hostname") then Some Host
    else if same_text column (codes "status") then Some Status
    else if same_text column (codes "weight") then Some (Number 1 1000)
    else if same_text column (codes "max_connections") then Some (Number 1 10000)
    else None

abbrev pub rule_form : (column : List ℕ) → Option Form
rule_form column =
    if same_text column (codes "rule_id") then Some (Number 1 4294967295)
    else if is_among (codes "active" ∷ codes "negate_match_pattern" ∷ codes "multiplex" ∷ codes "apply" ∷ []) column then Some (Number 0 1)
    else if is_among (codes "flagIN" ∷ codes "flagOUT" ∷ codes "next_query_flagIN" ∷ codes "destination_hostgroup" ∷ []) column then Some (Number 0 65535)
    else if is_among (codes "username" ∷ codes "schemaname" ∷ codes "replace_pattern" ∷ []) column then Some Text
    else if is_among (codes "match_digest" ∷ codes "match_pattern" ∷ []) column then Some Pattern
    else if is_among (codes "error_msg" ∷ codes "OK_msg" ∷ []) column then Some Message
    else if same_text column (codes "digest") then Some Digest
    else None

abbrev pub form_of : StagedTable → (column : List ℕ) → Option Form
form_of Servers column = server_form column
form_of Rules column = rule_form column

-- Values.

-- the number that a text spells, in a range
abbrev pub number_between : (least most : ℕ) → List ℕ → Option ℕ
number_between least most digits = number_to most digits >>= (λ n. if nat_le least n then Some n else None)

-- a status that an operator may give
abbrev pub status_in : List ℕ → Option ServerStatus
status_in t =
    if bytes_eq t (codes "ONLINE") then Some Online
    else if bytes_eq t (codes "OFFLINE_SOFT") then Some OfflineSoft
    else if bytes_eq t (codes "OFFLINE_HARD") then Some OfflineHard
    else None

abbrev pub hashed : Result (List ℕ) FromHexError → Option ℕ
hashed (Ok bytes) = Some (from_be_bytes w64 bytes)
hashed (Err fault) = None

-- the hash of a digest: 16 hexadecimal digits of either case, the highest first
abbrev pub digest_in : List ℕ → Option ℕ
digest_in t = hashed (decode_sized t 8)

-- a text without a byte 0, and one that isn't too long for an answer
abbrev pub is_plain : List ℕ → Bool
is_plain t = not (list_any (λ b. b == 0) t)

abbrev pub is_message : List ℕ → Bool
is_message t = is_plain t && nat_le (length t) 1024

abbrev pub is_number : Form → (digits : List ℕ) → Bool
is_number (Number least most) digits = is_some (number_between least most digits)
is_number _ digits = false

-- Whether texts are patterns is told by a test of `regex`, which is made before: the texts of patterns are some (`patterned`).
abbrev pub is_text : (patterned : Bool) → Form → List ℕ → Bool
is_text patterned Text t = is_plain t
is_text patterned Message t = is_message t
is_text patterned Pattern t = is_plain t && patterned
is_text patterned Digest t = is_some (digest_in t)
is_text patterned Host t = is_some (ipv4 t)
is_text patterned Status t = is_some (status_in t)
is_text patterned _ t = false

-- a value has the form of its column; NULL has each
abbrev pub has_form : (patterned : Bool) → Form → Value → Bool
has_form patterned form (values.Number digits) = is_number form digits
has_form patterned form (values.Text t) = is_text patterned form t
has_form patterned form values.Null = true

-- the column is one of the table, and the value has its form
abbrev pub is_column : (patterned : Bool) → StagedTable → Pair → Bool
is_column patterned table pair = option_map_or (λ form. has_form patterned form pair.value) (form_of table pair.column) false

abbrev pub are_columns : (patterned : Bool) → StagedTable → List Pair → Bool
are_columns patterned table pairs = list_all (λ pair. is_column patterned table pair) pairs

-- The value of a column in a row of these pairs, or its default. NULL is an absent value.

abbrev pub number_or : (default least most : ℕ) → Option Value → ℕ
number_or default least most (Some (values.Number digits)) = unwrap_or (number_between least most digits) default
number_or default least most _ = default

abbrev pub number_at : (column : List ℕ) → (default least most : ℕ) → List Pair → ℕ
number_at column default least most pairs = number_or default least most (given pairs column)

abbrev pub small_in : Option Value → Option ℕ
small_in (Some (values.Number digits)) = number_to 65535 digits
small_in _ = None

abbrev pub small_at : (column : List ℕ) → List Pair → Option ℕ
small_at column pairs = small_in (given pairs column)

abbrev pub switch_in : Option Value → Option Bool
switch_in (Some (values.Number digits)) = Some (bytes_eq digits (codes "1"))
switch_in _ = None

abbrev pub switch_at : (column : List ℕ) → List Pair → Option Bool
switch_at column pairs = switch_in (given pairs column)

abbrev pub text_in : Option Value → Option (List ℕ)
text_in (Some (values.Text t)) = Some t
text_in _ = None

abbrev pub text_at : (column : List ℕ) → List Pair → Option (List ℕ)
text_at column pairs = text_in (given pairs column)

abbrev pub digest_at : (column : List ℕ) → List Pair → Option ℕ
digest_at column pairs = text_at column pairs >>= digest_in

abbrev pub host_at : (column : List ℕ) → List Pair → List ℕ
host_at column pairs = unwrap_or (text_at column pairs >>= ipv4) (0 ∷ 0 ∷ 0 ∷ 0 ∷ [])

abbrev pub status_at : (column : List ℕ) → List Pair → ServerStatus
status_at column pairs = unwrap_or (text_at column pairs >>= status_in) Online

abbrev pub is_value : Option Value → Bool
is_value (Some (values.Number digits)) = true
is_value (Some (values.Text t)) = true
is_value _ = false

-- the column has a value
abbrev pub has_value : (column : List ℕ) → List Pair → Bool
has_value column pairs = is_value (given pairs column)
