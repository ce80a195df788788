-- Payloads of a reply, as the manual has them (client/server protocol, "OK_Packet", "ERR_Packet", "EOF_Packet",
-- "Text Resultset", "COM_STMT_PREPARE Response").
use Rattle.std.specs.Prelude.{◌≡◌, ◌≢◌, ◌≤◌, ◌<◌, ℕ, ◌+◌, ◌*◌, ◌/◌, ◌%◌, nat_lt, nat_eq, List, [], ◌∷◌, ◌++◌, length, drop, slice_index_or, Option, Some, None, if◌then◌else◌}
use Rattle.mx_base.specs.Fields.{little_endian}
use Rattle.reply_track.specs.declared.reply.EndKind.TheVariants.{Rows as EndRows, Ok as EndOk, Err as EndErr, Prepared as EndPrepared}
use Rattle.reply_track.specs.declared.reply.ReplyEnd.{ReplyEnd}

-- a number of two bytes, and one of four
pub record IsTwo (a b n : ℕ) : Type 0 where
  pub low : a < 256
  pub high : b < 256
  pub is : n ≡ a + 256 * b

abbrev pub four : (a b c d : ℕ) → ℕ
four a b c d = a + 256 * (b + 256 * (c + 256 * d))

-- how many bytes a length-encoded number has behind this first one; 0xFB and 0xFF begin none
abbrev pub size_behind : ℕ → Option ℕ
size_behind byte =
    if nat_lt byte 251 then Some 0
    else if nat_eq byte 252 then Some 2
    else if nat_eq byte 253 then Some 3
    else if nat_eq byte 254 then Some 8
    else None

-- a length-encoded number: one below 251 is its own byte
pub record IsNumber (bytes : List ℕ) (n : ℕ) : Type 0 where
  pub first : ℕ
  pub others : List ℕ
  pub is : bytes ≡ first ∷ others
  pub sized : size_behind first ≡ Some (length others)
  pub value : n ≡ (if nat_lt first 251 then first else little_endian others)

-- an OK: 0x00, affected rows, last insert id, status flags, warnings, info to the end
pub record IsOk (payload : List ℕ) (flags warnings insert_id : ℕ) : Type 0 where
  pub rows : List ℕ
  pub affected : ℕ
  pub insert : List ℕ
  pub f : ℕ
  pub g : ℕ
  pub w : ℕ
  pub v : ℕ
  pub info : List ℕ
  pub is : payload ≡ 0 ∷ (rows ++ (insert ++ (f ∷ g ∷ w ∷ v ∷ info)))
  pub affected_rows : IsNumber rows affected
  pub last_insert_id : IsNumber insert insert_id
  pub status_flags : IsTwo f g flags
  pub warning_count : IsTwo w v warnings

-- an ERR: 0xFF, error code, '#', five bytes of SQL state, message to the end
pub record IsErr (payload : List ℕ) (code : ℕ) : Type 0 where
  pub a : ℕ
  pub b : ℕ
  pub state : List ℕ
  pub message : List ℕ
  pub is : payload ≡ 255 ∷ a ∷ b ∷ 35 ∷ (state ++ message)
  pub error_code : IsTwo a b code
  pub sql_state : length state ≡ 5

-- an EOF: 0xFE, warnings, status flags, in fewer than 9 bytes
pub record IsEof (payload : List ℕ) (flags warnings : ℕ) : Type 0 where
  pub w : ℕ
  pub v : ℕ
  pub f : ℕ
  pub g : ℕ
  pub more : List ℕ
  pub is : payload ≡ 254 ∷ w ∷ v ∷ f ∷ g ∷ more
  pub short : length payload < 9
  pub warning_count : IsTwo w v warnings
  pub status_flags : IsTwo f g flags

-- a column count
pub record IsCount (payload : List ℕ) (n : ℕ) : Type 0 where
  pub number : IsNumber payload n
  pub some : 0 < n
  pub most : n < 65536

-- a definition or a row: it neither begins with 0xFF nor is an EOF
pub record IsPlain (payload : List ℕ) : Type 0 where
  pub no_err : slice_index_or payload 0 0 ≢ 255
  pub no_eof : (bytes : List ℕ) → payload ≡ 254 ∷ bytes → 5 ≤ length payload → length payload < 9 → ⊥

-- the first payload of the answer to a prepare: 0x00, statement id, columns, parameters, 0x00, warnings
pub record IsPrepared (payload : List ℕ) (number columns params warnings : ℕ) : Type 0 where
  pub a : ℕ
  pub b : ℕ
  pub c : ℕ
  pub d : ℕ
  pub e : ℕ
  pub f : ℕ
  pub g : ℕ
  pub h : ℕ
  pub w : ℕ
  pub v : ℕ
  pub is : payload ≡ 0 ∷ a ∷ b ∷ c ∷ d ∷ e ∷ f ∷ g ∷ h ∷ 0 ∷ w ∷ v ∷ []
  pub statement : number ≡ four a b c d
  pub column_count : IsTwo e f columns
  pub param_count : IsTwo g h params
  pub warning_count : IsTwo w v warnings

-- the same with another statement id
abbrev pub named : (number : ℕ) → List ℕ → List ℕ
named number [] = []
named number (first ∷ bytes) =
    if nat_eq first 0 then 0 ∷ number % 256 ∷ number / 256 % 256 ∷ number / 65536 % 256 ∷ number / 16777216 % 256 ∷ drop 4 bytes else first ∷ bytes

-- how a reply ends
abbrev pub ok_end : (flags warnings insert_id : ℕ) → ReplyEnd
ok_end flags warnings insert_id = record { kind = EndOk; flags = Some flags; warnings = warnings; insert_id = insert_id; code = 0; server_number = 0; params = 0 }

abbrev pub err_end : (code : ℕ) → ReplyEnd
err_end code = record { kind = EndErr; flags = None; warnings = 0; insert_id = 0; code = code; server_number = 0; params = 0 }

abbrev pub rows_end : (flags warnings : ℕ) → ReplyEnd
rows_end flags warnings = record { kind = EndRows; flags = Some flags; warnings = warnings; insert_id = 0; code = 0; server_number = 0; params = 0 }

abbrev pub prepared_end_of : (number params warnings : ℕ) → ReplyEnd
prepared_end_of number params warnings = record { kind = EndPrepared; flags = None; warnings = warnings; insert_id = 0; code = 0; server_number = number; params = params }
