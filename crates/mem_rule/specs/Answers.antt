-- Replies (client/server protocol, "Command Phase").
use Rattle.std.specs.Prelude.{ℕ, ◌+◌, ◌/◌, ◌%◌, Bool, false, ◌||◌, nat_eq, bytes_eq, slice_index_or, codes, List, [], ◌∷◌, ◌++◌, length, map, Option, Some, None, if◌then◌else◌}
use Rattle.mx_base.specs.Fields.{lenenc}
use Rattle.sql_tokens.specs.Words.{same_text}
use Rattle.session_vars.specs.Settings.{value_at}
use Rattle.session_vars.specs.declared.change.SlotValue.{SlotValue}
use Rattle.session_vars.specs.declared.change.SlotValue.TheVariants as values
use Rattle.session_vars.specs.declared.slot.Slot.TheVariants.{Autocommit}
use Rattle.server_rule.specs.Servers.{is_some_of}
use Rattle.mem_rule.specs.Notes.{text_bytes}
use Rattle.mem_rule.specs.declared.answer.Answer.{Answer}
use Rattle.mem_rule.specs.declared.answer.Answer.TheVariants.{Done, Shown, Refused}
use Rattle.mem_rule.specs.declared.answer.Fault.{Fault}
use Rattle.mem_rule.specs.declared.answer.Fault.TheVariants.{NoTable, Duplicate, Locked, Syntax}

-- code, SQL state and message of an ERR
abbrev pub code_of : Fault → ℕ
code_of NoTable = 1146
code_of Duplicate = 1062
code_of Locked = 1205
code_of Syntax = 1064

abbrev pub state_of : Fault → List ℕ
state_of NoTable = codes "42S02"
state_of Duplicate = codes "23000"
state_of Locked = codes "HY000"
state_of Syntax = codes "42000"

abbrev pub message_of : Fault → List ℕ
message_of NoTable = codes "Table 't' doesn't exist"
message_of Duplicate = codes "Duplicate entry for key 'PRIMARY'"
message_of Locked = codes "Lock wait timeout exceeded; try restarting transaction"
message_of Syntax = codes "You have an error in your SQL syntax"

-- 0xFF, code (2), '#', SQL state, message
abbrev pub err_payload : Fault → List ℕ
err_payload fault = 255 ∷ code_of fault % 256 ∷ code_of fault / 256 ∷ 35 ∷ (state_of fault ++ message_of fault)

-- what SHOW WARNINGS shows after an ERR: code (2), message
abbrev pub fault_bytes : Fault → List ℕ
fault_bytes fault = code_of fault % 256 ∷ code_of fault / 256 ∷ message_of fault

-- autocommit is on, which it is unless it was set to 0 or OFF
abbrev pub is_off : SlotValue → Bool
is_off values.Default = false
is_off (values.Text text) = bytes_eq text (codes "0") || same_text text (codes "OFF")

abbrev pub is_off_in : List SlotValue → Bool
is_off_in settings = is_off (value_at settings Autocommit)

-- SERVER_STATUS_IN_TRANS is 1, SERVER_STATUS_AUTOCOMMIT 2
abbrev pub status : (tx : List ℕ) → List SlotValue → ℕ
status tx settings = (if is_some_of tx then 1 else 0) + (if is_off_in settings then 0 else 2)

-- 0x00, affected rows, insert id, status flags (2), warnings (2)
abbrev pub ok_payload : (status rows id : ℕ) → List ℕ
ok_payload status rows id = 0 ∷ (lenenc rows ++ (lenenc id ++ (status ∷ 0 ∷ 0 ∷ 0 ∷ [])))

-- 0xFE, warnings (2), status flags (2)
abbrev pub eof_payload : (status : ℕ) → List ℕ
eof_payload status = 254 ∷ 0 ∷ 0 ∷ status ∷ 0 ∷ []

-- a column: its catalog "def", no schema and tables, its name, no original name; 0x0C, the character set 45, the length
-- 1,024, the type VAR_STRING, no flags, no decimals, two zero bytes
abbrev pub column_payload : (name : List ℕ) → List ℕ
column_payload name = (3 ∷ 100 ∷ 101 ∷ 102 ∷ 0 ∷ 0 ∷ 0 ∷ []) ++ (text_bytes name ++ (0 ∷ 12 ∷ 45 ∷ 0 ∷ 0 ∷ 4 ∷ 0 ∷ 0 ∷ 253 ∷ 0 ∷ 0 ∷ 0 ∷ 0 ∷ 0 ∷ []))

-- A row of a prepared statement has 0x00 and a bit map of the NULLs before its cells, where a text row has 0xFB for NULL.
abbrev pub binary_row : List ℕ → List ℕ
binary_row row = if nat_eq (slice_index_or row 0 0) 251 then 0 ∷ 4 ∷ [] else 0 ∷ 0 ∷ row

abbrev pub row_payloads : (is_binary : Bool) → Option (List ℕ) → List (List ℕ)
row_payloads is_binary None = []
row_payloads is_binary (Some row) = (if is_binary then binary_row row else row) ∷ []

abbrev pub table_payloads : (is_binary : Bool) → (status : ℕ) → (columns : List (List ℕ)) → Option (List ℕ) → List (List ℕ)
table_payloads is_binary status columns row =
    (lenenc (length columns) ∷ []) ++ (map column_payload columns ++ ((eof_payload status ∷ []) ++ (row_payloads is_binary row ++ (eof_payload status ∷ []))))

abbrev pub payloads_of : (is_binary : Bool) → (status : ℕ) → Answer → List (List ℕ)
payloads_of is_binary status (Done rows id) = ok_payload status rows id ∷ []
payloads_of is_binary status (Shown columns row) = table_payloads is_binary status columns row
payloads_of is_binary status (Refused fault) = err_payload fault ∷ []

-- what an answer leaves to be shown
abbrev pub diag_of : Answer → List ℕ
diag_of (Refused fault) = fault_bytes fault
diag_of _ = []
