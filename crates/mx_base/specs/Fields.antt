-- Fields of a packet: numbers of so many bytes, and length-encoded numbers.
use Rattle.std.specs.Prelude.{ℕ, ◌+◌, ◌*◌, ◌<◌, nat_lt, nat_eq, List, [], ◌∷◌, length, take, drop, slice_index_or, Option, Some, None, if◌then◌else◌}
use Rattle.std.specs.Int.{bytes_low_first}
use Rattle.mx_base.specs.declared.fields.Field.{Field}
use Rattle.mx_base.specs.declared.fields.Field.TheVariants.{Value, Null, Short, Bad}

-- the number that bytes spell, the least significant first
abbrev pub little_endian : List ℕ → ℕ
little_endian [] = 0
little_endian (b ∷ bytes) = b + 256 * little_endian bytes

-- each is a byte
abbrev pub AreBytes : List ℕ → Type 0
AreBytes bytes = (i : ℕ) → slice_index_or bytes i 0 < 256

-- the number of so many bytes at a place, where it doesn't run past the end
abbrev pub number_at : (size at : ℕ) → List ℕ → Option ℕ
number_at size at bytes = if nat_lt (length bytes) (at + size) then None else Some (little_endian (take size (drop at bytes)))

-- a number as a field that ends at a place
abbrev pub value_to : (end : ℕ) → Option ℕ → Field
value_to end None = Short
value_to end (Some n) = Value n end

-- by the first byte of a length-encoded number: it is the number, or says how many bytes behind it the number has
abbrev pub lenenc_by : (at : ℕ) → List ℕ → Option ℕ → Field
lenenc_by at bytes None = Short
lenenc_by at bytes (Some first) =
    if nat_lt first 251 then Value first (at + 1)
    else if nat_eq first 251 then Null
    else if nat_eq first 252 then value_to (at + 3) (number_at 2 (at + 1) bytes)
    else if nat_eq first 253 then value_to (at + 4) (number_at 3 (at + 1) bytes)
    else if nat_eq first 254 then value_to (at + 9) (number_at 8 (at + 1) bytes)
    else Bad

-- the length-encoded number at a place
abbrev pub lenenc_at : (at : ℕ) → List ℕ → Field
lenenc_at at bytes = lenenc_by at bytes (number_at 1 at bytes)

-- the bytes of a number, so many of them, the least significant first
abbrev pub number_bytes : (size n : ℕ) → List ℕ
number_bytes size n = bytes_low_first 0 size n

-- the shortest spelling of a length-encoded number
abbrev pub lenenc : ℕ → List ℕ
lenenc n =
    if nat_lt n 251 then n ∷ []
    else if nat_lt n 65536 then 252 ∷ number_bytes 2 n
    else if nat_lt n 16777216 then 253 ∷ number_bytes 3 n
    else 254 ∷ number_bytes 8 n
