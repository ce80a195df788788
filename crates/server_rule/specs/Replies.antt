-- How a reply ended, by its payloads.
use Rattle.std.specs.Prelude.{ℕ, ◌+◌, Bool, true, false, ◌&&◌, nat_eq, nat_lt, if◌then◌else◌, List, [], ◌∷◌, take, drop, length, slice_index_or, Option, Some, None}
use Rattle.mx_base.specs.Decimal.{decimal_value, in_64_bits, is_decimal}
use Rattle.mx_base.specs.Fields.{number_at, lenenc_at}
use Rattle.mx_base.specs.declared.fields.Field.{Field}
use Rattle.mx_base.specs.declared.fields.Field.TheVariants.{Value}
use Rattle.session_state.specs.declared.reply_end.EndKind.TheVariants.{Ok, Err, Rows, Prepared}
use Rattle.session_state.specs.declared.reply_end.ReplyEnd.{ReplyEnd}

abbrev pub or_zero : Option ℕ → ℕ
or_zero None = 0
or_zero (Some n) = n

abbrev pub field_at : (size at : ℕ) → List ℕ → ℕ
field_at size at payload = or_zero (number_at size at payload)

-- an OK: 0x00, affected rows and insert id, both length-encoded, status flags (2), warnings (2)
abbrev pub ok_end : (insert_id at : ℕ) → (payload : List ℕ) → ReplyEnd
ok_end id at payload = record { kind = Ok; flags = Some (field_at 2 at payload); warnings = field_at 2 (at + 2) payload; insert_id = id; code = 0; server_number = 0; params = 0 }

abbrev pub ok_behind : Field → (payload : List ℕ) → ReplyEnd
ok_behind (Value id next) payload = ok_end id next payload
ok_behind _ payload = ok_end 0 (length payload) payload

abbrev pub ok_behind_rows : Field → (payload : List ℕ) → ReplyEnd
ok_behind_rows (Value rows next) payload = ok_behind (lenenc_at next payload) payload
ok_behind_rows _ payload = ok_end 0 (length payload) payload

-- an ERR: 0xFF, code (2)
abbrev pub err_end : (payload : List ℕ) → ReplyEnd
err_end payload = record { kind = Err; flags = None; warnings = 0; insert_id = 0; code = field_at 2 1 payload; server_number = 0; params = 0 }

-- an EOF: 0xFE, warnings (2), status flags (2)
abbrev pub rows_end : (payload : List ℕ) → ReplyEnd
rows_end payload = record { kind = Rows; flags = Some (field_at 2 3 payload); warnings = field_at 2 1 payload; insert_id = 0; code = 0; server_number = 0; params = 0 }

-- a prepare answer: 0x00, number (4), columns (2), parameters (2), 0x00, warnings (2)
abbrev pub prepared_end : (payload : List ℕ) → ReplyEnd
prepared_end payload = record { kind = Prepared; flags = None; warnings = field_at 2 10 payload; insert_id = 0; code = 0; server_number = field_at 4 1 payload; params = field_at 2 7 payload }

abbrev pub first_payload : List (List ℕ) → List ℕ
first_payload [] = []
first_payload (payload ∷ payloads) = payload

abbrev pub last_payload : List (List ℕ) → List ℕ
last_payload [] = []
last_payload (payload ∷ []) = payload
last_payload (payload ∷ next ∷ payloads) = last_payload (next ∷ payloads)

abbrev pub is_err_payload : List ℕ → Bool
is_err_payload payload = nat_eq (slice_index_or payload 0 0) 255

abbrev pub is_eof_payload : List ℕ → Bool
is_eof_payload payload = nat_eq (slice_index_or payload 0 0) 254 && nat_lt (length payload) 9

-- by the last payload
abbrev pub end_by : (payload : List ℕ) → ReplyEnd
end_by payload =
    if is_err_payload payload then err_end payload
    else if is_eof_payload payload then rows_end payload
    else ok_behind_rows (lenenc_at 1 payload) payload

-- the answer to a STMT_PREPARE, by its first payload
abbrev pub prepare_end_by : (payload : List ℕ) → ReplyEnd
prepare_end_by payload = if is_err_payload payload then err_end payload else prepared_end payload

-- How a reply ended; to_prepare says that it answers a STMT_PREPARE.
unfoldable pub reply_end : (to_prepare : Bool) → List (List ℕ) → ReplyEnd
reply_end true payloads = prepare_end_by (first_payload payloads)
reply_end false payloads = end_by (last_payload payloads)

-- The one number of one row: the answer to `SELECT LAST_INSERT_ID()`.

-- the number that a text spells as `{}` prints it, where 64 bits hold it
abbrev pub number_spelled : List ℕ → Option ℕ
number_spelled text = if is_decimal text then in_64_bits (decimal_value text) else None

abbrev pub text_behind : Field → List ℕ → Option ℕ
text_behind (Value size next) row = number_spelled (take size (drop next row))
text_behind _ row = None

abbrev pub number_in_row : (row : List ℕ) → Option ℕ
number_in_row row = text_behind (lenenc_at 0 row) row

-- a column count, a column, an EOF, a row, an EOF
unfoldable pub one_number : List (List ℕ) → Option ℕ
one_number (count ∷ column ∷ eof ∷ row ∷ last ∷ []) = number_in_row row
one_number _ = None
