-- The payloads of an OK and of an ERR.
use Rattle.std.specs.Prelude.{ℕ, ◌+◌, ◌/◌, ◌%◌, Bool, false, ◌&&◌, ◌||◌, nat_le, nat_eq, bit_and, List, [], ◌∷◌, ◌++◌, length, slice_index_or, Option, Some, None, if◌then◌else◌}
use Rattle.mx_base.specs.Fields.{number_at, lenenc_at}
use Rattle.mx_base.specs.declared.fields.Field.{Field}
use Rattle.mx_base.specs.declared.fields.Field.TheVariants.{Value, Null, Short, Bad}

-- an ERR: 0xFF, code (2), '#', SQL state (5), message to the end
abbrev pub err_payload : (code : ℕ) → (state text : List ℕ) → List ℕ
err_payload code state text = 255 ∷ code % 256 ∷ code / 256 ∷ 35 ∷ (state ++ text)

abbrev pub is_err : List ℕ → Bool
is_err payload = nat_le 9 (length payload) && nat_eq (slice_index_or payload 0 0) 255 && nat_eq (slice_index_or payload 3 0) 35

-- an OK: 0x00, affected rows and last insert id, both length-encoded, status flags (2), warnings (2), info to the
-- end; this one tells of no rows, no insert id and no warnings
abbrev pub ok_payload : (status : ℕ) → (info : List ℕ) → List ℕ
ok_payload status info = 0 ∷ 0 ∷ 0 ∷ status % 256 ∷ status / 256 ∷ 0 ∷ 0 ∷ info

-- an EOF: 0xFE, warnings (2), status flags (2); this one tells of no warnings
abbrev pub eof_payload : (status : ℕ) → List ℕ
eof_payload status = 254 ∷ 0 ∷ 0 ∷ status % 256 ∷ status / 256 ∷ []

-- the status flags of an OK
abbrev pub flags_with : Option ℕ → Option ℕ → Option ℕ
flags_with None warnings = None
flags_with (Some flags) None = None
flags_with (Some flags) (Some warnings) = Some flags

abbrev pub flags_behind : Field → List ℕ → Option ℕ
flags_behind (Value insert_id next) payload = flags_with (number_at 2 next payload) (number_at 2 (next + 2) payload)
flags_behind Null payload = None
flags_behind Short payload = None
flags_behind Bad payload = None

abbrev pub flags_behind_rows : Field → List ℕ → Option ℕ
flags_behind_rows (Value rows next) payload = flags_behind (lenenc_at next payload) payload
flags_behind_rows Null payload = None
flags_behind_rows Short payload = None
flags_behind_rows Bad payload = None

abbrev pub flags_by : Option ℕ → List ℕ → Option ℕ
flags_by None payload = None
flags_by (Some first) payload = if nat_eq first 0 then flags_behind_rows (lenenc_at 1 payload) payload else None

abbrev pub ok_flags : List ℕ → Option ℕ
ok_flags payload = flags_by (number_at 1 0 payload) payload

-- MORE_RESULTS_EXISTS: another result follows
abbrev pub is_last : Option ℕ → Bool
is_last None = false
is_last (Some flags) = nat_eq (bit_and flags 8) 0

-- a reply that is this one payload: an ERR, or an OK that no result follows
abbrev pub is_lone : List ℕ → Bool
is_lone payload = is_err payload || is_last (ok_flags payload)
