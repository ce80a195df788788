-- What a client's payload commands, where something is known of the prepared statement that it names.
use Rattle.std.specs.Prelude.{ℕ, ◌+◌, ◌*◌, ◌/◌, nat_eq, nat_lt, List, [], ◌∷◌, drop, length, slice_index, slice_range, Option, None, Some, Result, Ok, Err, if◌then◌else◌}
use Rattle.mx_base.specs.Fields.{number_at}
use Rattle.command_parse.specs.declared.command_byte.TheConstants.{COM_QUIT, COM_INIT_DB, COM_QUERY, COM_FIELD_LIST, COM_PING, COM_STMT_PREPARE, COM_STMT_EXECUTE, COM_STMT_SEND_LONG_DATA, COM_STMT_CLOSE, COM_STMT_RESET, COM_STMT_FETCH, COM_RESET_CONNECTION}
use Rattle.command_parse.specs.declared.fault.CommandFault.{CommandFault}
use Rattle.command_parse.specs.declared.fault.CommandFault.TheVariants.{Empty, Short, TypesMissing, UnknownStatement}
use Rattle.command_parse.specs.declared.statement.Known.{Known}
use Rattle.command_parse.specs.Meaning.{Meaning, Close, Execute, Fetch, FieldList, InitDb, LongData, Ping, Prepare, Query, Quit, Refused, ResetConnection, ResetStmt}

-- a command by the number behind its byte
abbrev pub numbered : (payload : List ℕ) → (ℕ → Result Meaning CommandFault) → Result Meaning CommandFault
numbered payload command = by (number_at 4 1 payload) where
  by : Option ℕ → Result Meaning CommandFault
  by None = Err (Short 1)
  by (Some id) = command id

-- a command of a statement that is known
abbrev pub of_known : (id : ℕ) → Option Known → (Known → Result Meaning CommandFault) → Result Meaning CommandFault
of_known id None command = Err (UnknownStatement id)
of_known id (Some known) command = command known

-- the place behind the bits of parameters that are NULL: eight in a byte
abbrev pub nulls_end : Known → ℕ
nulls_end known = 10 + (known.params + 7) / 8

-- the place behind the types, of two bytes each
abbrev pub types_end : Known → ℕ
types_end known = nulls_end known + 1 + 2 * known.params

-- an execute without new types
abbrev pub bound_before : (id : ℕ) → Known → List ℕ → Result Meaning CommandFault
bound_before id known payload =
    if known.bound then Ok (Execute id None (slice_range payload 10 (nulls_end known)) (drop (nulls_end known + 1) payload))
    else Err TypesMissing

-- an execute with new types
abbrev pub bound_anew : (id : ℕ) → Known → List ℕ → Result Meaning CommandFault
bound_anew id known payload =
    if nat_lt (length payload) (types_end known) then Err (Short (nulls_end known + 1))
    else Ok (Execute id (Some (slice_range payload (nulls_end known + 1) (types_end known))) (slice_range payload 10 (nulls_end known))
    (drop (types_end known) payload))

-- an execute with parameters: a byte behind the bits says whether types come
abbrev pub executed : (id : ℕ) → Known → List ℕ → Result Meaning CommandFault
executed id known payload =
    if nat_lt (length payload) (nulls_end known) then Err (Short 10)
    else if nat_eq (length payload) (nulls_end known) then Err (Short (nulls_end known))
    else if nat_eq (slice_index payload (nulls_end known)) 1 then bound_anew id known payload
    else bound_before id known payload

-- behind the number come flags, of a byte, and a count, of four
abbrev pub execute_by : List ℕ → (id : ℕ) → Known → Result Meaning CommandFault
execute_by payload id known =
    if nat_lt (length payload) 6 then Err (Short 5)
    else if nat_lt (length payload) 10 then Err (Short 6)
    else if nat_eq known.params 0 then Ok (Execute id None [] [])
    else executed id known payload

abbrev pub execute_of : Option Known → List ℕ → Result Meaning CommandFault
execute_of known payload = numbered payload (λ id. of_known id known (execute_by payload id))

-- behind the number comes that of the parameter
abbrev pub long_data_of : List ℕ → Result Meaning CommandFault
long_data_of payload = numbered payload (λ id. by id (number_at 2 5 payload)) where
  by : ℕ → Option ℕ → Result Meaning CommandFault
  by id None = Err (Short 5)
  by id (Some parameter) = Ok (LongData id parameter (drop 7 payload))

abbrev pub close_of : List ℕ → Result Meaning CommandFault
close_of payload = numbered payload (λ id. Ok (Close id))

abbrev pub reset_of : Option Known → List ℕ → Result Meaning CommandFault
reset_of known payload = numbered payload (λ id. of_known id known (λ k. Ok (ResetStmt id)))

abbrev pub fetch_of : List ℕ → Result Meaning CommandFault
fetch_of payload = numbered payload (λ id. Ok (Fetch id))

abbrev pub whole_by : Option Known → (byte : ℕ) → (rest payload : List ℕ) → Result Meaning CommandFault
whole_by known byte rest payload =
    if nat_eq byte COM_QUIT then Ok Quit
    else if nat_eq byte COM_INIT_DB then Ok (InitDb rest)
    else if nat_eq byte COM_QUERY then Ok (Query rest)
    else if nat_eq byte COM_FIELD_LIST then Ok (FieldList rest)
    else if nat_eq byte COM_PING then Ok Ping
    else if nat_eq byte COM_STMT_PREPARE then Ok (Prepare rest)
    else if nat_eq byte COM_STMT_EXECUTE then execute_of known payload
    else if nat_eq byte COM_STMT_SEND_LONG_DATA then long_data_of payload
    else if nat_eq byte COM_STMT_CLOSE then close_of payload
    else if nat_eq byte COM_STMT_RESET then reset_of known payload
    else if nat_eq byte COM_STMT_FETCH then fetch_of payload
    else if nat_eq byte COM_RESET_CONNECTION then Ok ResetConnection
    else Ok (Refused byte)

-- what a payload commands, or why it commands nothing
abbrev pub whole_parsed : Option Known → List ℕ → Result Meaning CommandFault
whole_parsed known [] = Err Empty
whole_parsed known (byte ∷ rest) = whole_by known byte rest (byte ∷ rest)
