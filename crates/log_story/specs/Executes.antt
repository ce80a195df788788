-- What a client's message asks for; an execute, by its own bytes and the messages before it (client/server protocol, "COM_STMT_EXECUTE",
-- "COM_STMT_SEND_LONG_DATA", "COM_STMT_RESET").
use Rattle.std.specs.Prelude.{ℕ, zero, suc, ◌+◌, ◌*◌, ◌/◌, ◌-◌, Bool, false, not, is_some, ◌&&◌, nat_eq, nat_lt, if◌then◌else◌, List, [], ◌∷◌, ◌++◌, drop}
use Rattle.std.specs.Prelude.{slice_index_or, take, unwrap_or, Option, Some, None}
use Rattle.std.specs.Option.{option_and_then, option_map, option_map_or, option_or}
use Rattle.mx_base.specs.Fields.{number_at}
use Rattle.packet_frame.specs.Packets.{Framed}
use Rattle.session_vars.specs.declared.long_part.LongPart.{LongPart}
use Rattle.private_model.specs.Commands.{Args, Command, FieldList, InitDb, Prepare, Query, Reply, Run, end_of, is_made}
use Rattle.private_model.specs.View.{Setup, View}
use Rattle.log_story.specs.Owed.{messages, name_of}
use Rattle.log_story.specs.Plan.{Plan, Route, com_execute, com_field_list, com_init_db, com_long_data, com_prepare, com_query, com_statement_reset}
use Rattle.log_story.specs.Tale.{Client}

-- a command for the prepared statement of this number
abbrev pub is_for : (byte number : ℕ) → (payload : List ℕ) → Bool
is_for byte number payload = nat_eq (slice_index_or payload 0 0) byte && option_map_or (λ n. nat_eq n number) (number_at 4 1 payload) false

-- The arguments in an execute of a statement with so many parameters: behind the number, a byte of flags and four of an
-- iteration count stand a bitmap of NULLs, a byte that is 1 where types follow, the types, two bytes each, and the values.

abbrev pub typed : (params : ℕ) → (nulls rest : List ℕ) → Args
typed params nulls [] = record { types = None; nulls = nulls; values = []; long = [] }
typed params nulls (sends ∷ rest) =
    if nat_eq sends 1 then record { types = Some (take (2 * params) rest); nulls = nulls; values = drop (2 * params) rest; long = [] }
    else record { types = None; nulls = nulls; values = rest; long = [] }

abbrev pub given_in : (params : ℕ) → (payload : List ℕ) → Args
given_in zero payload = record { types = None; nulls = []; values = []; long = [] }
given_in (suc more) payload =
    let size = (suc more + 7) / 8 in
    typed (suc more) (take size (drop 10 payload)) (drop (10 + size) payload)

-- What came before: the types of the last execute that sent any, and the long data since the last execute or STMT_RESET, one
-- part for each parameter, in the order of their first bytes.
pub record Bound : Type 0 where
  pub types : Option (List ℕ)
  pub long : List LongPart

abbrev pub longer : (parameter : ℕ) → (bytes : List ℕ) → List LongPart → List LongPart
longer parameter bytes [] = record { parameter = parameter; bytes = bytes } ∷ []
longer parameter bytes (part ∷ parts) =
    if nat_eq part.parameter parameter then record part { bytes = part.bytes ++ bytes } ∷ parts else part ∷ longer parameter bytes parts

-- long data of a parameter that isn't there are dropped
abbrev pub with_long : (params : ℕ) → (bytes : List ℕ) → Bound → (parameter : ℕ) → Bound
with_long params bytes bound parameter = if nat_lt parameter params then record bound { long = longer parameter bytes bound.long } else bound

-- after a message; an execute that never became due binds nothing
abbrev pub bound_after : (params number : ℕ) → (refused : Bool) → (payload : List ℕ) → Bound → Bound
bound_after params number refused payload bound =
    if is_for com_long_data number payload then option_map_or (with_long params (drop 7 payload) bound) (number_at 2 5 payload) bound
    else if is_for com_statement_reset number payload then record bound { long = [] }
    else if is_for com_execute number payload && not refused then record { types = option_or (given_in params payload).types bound.types; long = [] }
    else bound

-- after messages from the i-th on
abbrev pub bound_by : (params number : ℕ) → (refused : ℕ → Bool) → (i : ℕ) → List Framed → Bound → Bound
bound_by params number refused i [] bound = bound
bound_by params number refused i (message ∷ others) bound =
    bound_by params number refused (suc i) others (bound_after params number (refused i) message.payload bound)

-- so many messages came before it could be executed, or long data could be sent for it; those bind nothing
abbrev pub args_in : (params number : ℕ) → (refused : ℕ → Bool) → (unprepared : ℕ) → (before : List Framed) → (payload : List ℕ) → Args
args_in params number refused unprepared before payload =
    let sent = given_in params payload in
    let bound = bound_by params number refused (suc unprepared) (drop unprepared before) (record { types = None; long = [] }) in
    record sent { types = option_or sent.types bound.types; long = bound.long }

-- The preparation of a number: the client's STMT_PREPARE, of this ordinal, which was answered, and by whose answer the client
-- knows it.
pub record Prepared : Type 0 where
  pub key : ℕ
  pub params : ℕ
  pub ordinal : ℕ

abbrev pub prepared_in : (number ordinal : ℕ) → (payload : List ℕ) → Option Route → Option Reply → Option Prepared
prepared_in number ordinal payload (Some route) (Some reply) =
    if nat_eq (slice_index_or payload 0 0) com_prepare
    && (nat_eq route.number number && is_made reply) then Some (record { key = route.key; params = (end_of reply).params; ordinal = ordinal })
    else None
prepared_in number ordinal payload _ _ = None

abbrev pub prepared_by : View → Plan → Client → (number i : ℕ) → List Framed → Option Prepared
prepared_by view plan client number i [] = None
prepared_by view plan client number i (message ∷ others) =
    option_or (prepared_in number i message.payload (plan.routes (name_of client i)) (view.replies (name_of client i)))
    (prepared_by view plan client number (suc i) others)

-- a command, and the key of its preparation
pub record Request : Type 0 where
  pub command : Command
  pub key : ℕ

-- A text is executed in the schema of its preparation; but where it was prepared in none, or its client stands in none, as if it were prepared
-- in that of its client: no step leads a link out of its schema. Then it goes by the key of its route.

abbrev pub run_schema : (prepared stands : List ℕ) → List ℕ
run_schema [] stands = stands
run_schema (byte ∷ schema) [] = []
run_schema (byte ∷ schema) (other ∷ stands) = byte ∷ schema

abbrev pub run_key : (prepared stands : List ℕ) → (key routed : ℕ) → ℕ
run_key [] stands key routed = routed
run_key (byte ∷ schema) [] key routed = routed
run_key (byte ∷ schema) (other ∷ stands) key routed = key

abbrev pub run_of : Setup → Args → (stands : List ℕ) → (routed key : ℕ) → Request
run_of setup args stands routed key = record {
  command = Run (setup.keys key).text (run_schema (setup.keys key).place.schema stands) (setup.keys key).place.settings args;
  key = run_key (setup.keys key).place.schema stands key routed;
}

abbrev pub executed_by : Setup → View → Plan → Client → (ordinal : ℕ) → Route → (payload : List ℕ) → (number : ℕ) → Option Request
executed_by setup view plan client ordinal route payload number =
    let refused : ℕ → Bool = λ i. not (is_some (plan.routes (name_of client i))) in
    option_map (λ prepared. run_of setup (args_in prepared.params number refused prepared.ordinal (take (ordinal - 1) (messages plan client)) payload)
    (view.places client.number).schema route.key prepared.key)
    (prepared_by view plan client number 1 (messages plan client))

abbrev pub text_asked : (byte : ℕ) → (rest : List ℕ) → Option Command
text_asked byte rest =
    if nat_eq byte com_query then Some (Query rest)
    else if nat_eq byte com_init_db then Some (InitDb rest)
    else if nat_eq byte com_field_list then Some (FieldList rest)
    else if nat_eq byte com_prepare then Some (Prepare rest)
    else None

-- what isn't prepared can't be executed, and of other messages none asks a server for anything
abbrev pub requested : Setup → View → Plan → Client → (ordinal : ℕ) → Route → (payload : List ℕ) → Option Request
requested setup view plan client ordinal route payload =
    if nat_eq (slice_index_or payload 0 0) com_execute then option_and_then (executed_by setup view plan client ordinal route payload) (number_at 4 1 payload)
    else option_map (λ command. record { command = command; key = route.key })
    (text_asked (slice_index_or payload 0 0) (unwrap_or route.text (drop 1 payload)))
