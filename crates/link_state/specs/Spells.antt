-- How commands are spelt: as packets from the sequence id 0 on (client/server protocol, "COM_STMT_SEND_LONG_DATA", "COM_STMT_EXECUTE").
use Rattle.std.specs.Prelude.{ℕ, ◌/◌, ◌%◌, List, [], ◌∷◌, ◌++◌, Option, Some, None}
use Rattle.std.specs.List.{flat_map}
use Rattle.packet_frame.specs.Packets.{spelling}
use Rattle.session_vars.specs.declared.long_part.LongPart.{LongPart}

abbrev pub spelt_on : (before payload : List ℕ) → List ℕ
spelt_on before payload = before ++ spelling 0 payload

abbrev pub spelt : (payload : List ℕ) → List ℕ
spelt payload = spelling 0 payload

-- a command for the prepared statement of a number
abbrev pub with_number : (code number : ℕ) → List ℕ
with_number code number = code ∷ number % 256 ∷ number / 256 % 256 ∷ number / 65536 % 256 ∷ number / 16777216 % 256 ∷ []

-- long data of a parameter
abbrev pub long_bytes : (number : ℕ) → LongPart → List ℕ
long_bytes number part = spelling 0 (with_number 0x18 number ++ (part.parameter % 256 ∷ part.parameter / 256 % 256 ∷ part.bytes))

-- whether types follow, and these
abbrev pub types_bytes : Option (List ℕ) → List ℕ
types_bytes None = 0 ∷ []
types_bytes (Some types) = 1 ∷ types

-- which parameters are NULL, the types and the values; nothing, where the statement has no parameters
abbrev pub args_bytes : (nulls : List ℕ) → (types : Option (List ℕ)) → (values : List ℕ) → List ℕ
args_bytes [] types values = []
args_bytes (byte ∷ nulls) types values = byte ∷ (nulls ++ (types_bytes types ++ values))

-- with no cursor, for one iteration
abbrev pub execute_bytes : (number : ℕ) → (nulls : List ℕ) → (types : Option (List ℕ)) → (values : List ℕ) → List ℕ
execute_bytes number nulls types values = with_number 0x17 number ++ (0 ∷ 1 ∷ 0 ∷ 0 ∷ 0 ∷ args_bytes nulls types values)

abbrev pub executes : (number : ℕ) → (nulls : List ℕ) → (types : Option (List ℕ)) → (values : List ℕ) → List LongPart → List ℕ
executes number nulls types values parts = spelt_on (flat_map (long_bytes number) parts) (execute_bytes number nulls types values)
