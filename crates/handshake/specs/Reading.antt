-- Fields that are read one after the other, and the first fault.
use Rattle.std.specs.Prelude.{◌≡◌, ℕ, Bool, not, ◌+◌, ◌==◌, nat_lt, List, length, take, drop, position, Option, Some, None, Result, Ok, Err, if◌then◌else◌}
use Rattle.mx_base.specs.Fields.{number_at}
use Rattle.mx_base.specs.declared.fields.Field.{Field}
use Rattle.mx_base.specs.declared.fields.Field.TheVariants as numbers
use Rattle.handshake.specs.declared.fault.HandFault.{HandFault}
use Rattle.handshake.specs.declared.fault.HandFault.TheVariants.{Short, OutOfMemory}

-- the bytes that aren't read yet, and the place of the first of them
pub record Rest : Type 0 where
  pub bytes : List ℕ
  pub at : ℕ

abbrev pub start : List ℕ → Rest
start payload = record { bytes = payload; at = 0 }

abbrev pub after : (n : ℕ) → Rest → Rest
after n rest = record { bytes = drop n rest.bytes; at = rest.at + n }

-- a field: its value and what is behind it, or its fault
abbrev pub Read : Type 0 → Type 0
Read A = Result (A × Rest) HandFault

infixl 10 ◌>>=◌
abbrev pub ◌>>=◌ : {A B : Type 0} → Result A HandFault → (A → Result B HandFault) → Result B HandFault
(Ok x) >>= next = next x
(Err fault) >>= next = Err fault

-- what a call answered, and what it left to read, is the field
abbrev pub Takes : {A : Type 0} → Result A HandFault → Rest → Read A → Type 0
Takes (Ok x) left field = field ≡ Ok (x, left)
Takes (Err fault) left field = field ≡ Err fault

-- what was read is this, unless memory ran out
abbrev pub Gives : {A : Type 0} → Result A HandFault → Result A HandFault → Type 0
Gives (Err OutOfMemory) read = Unit {0}
Gives given read = given ≡ read

-- a fault unless a test passes
abbrev pub demand : Bool → HandFault → Result (Unit {0}) HandFault
demand passes fault = if passes then Ok tt else Err fault

-- a number of so many bytes
abbrev pub number_or_short : (size : ℕ) → Rest → Option ℕ → Read ℕ
number_or_short size rest None = Err (Short rest.at)
number_or_short size rest (Some n) = Ok (n, after size rest)

unfoldable pub number_field : (size : ℕ) → Rest → Read ℕ
number_field size rest = number_or_short size rest (number_at size 0 rest.bytes)

-- so many bytes
unfoldable pub bytes_field : (n : ℕ) → Rest → Read (List ℕ)
bytes_field n rest = if nat_lt (length rest.bytes) n then Err (Short rest.at) else Ok (take n rest.bytes, after n rest)

-- the place of the first NUL
abbrev pub nul_at : List ℕ → Option ℕ
nul_at bytes = position (λ b. b == 0) bytes

-- a text that a NUL ends
abbrev pub text_to : Rest → Option ℕ → Read (List ℕ)
text_to rest None = Err (Short rest.at)
text_to rest (Some end) = Ok (take end rest.bytes, after (end + 1) rest)

unfoldable pub text_field : Rest → Read (List ℕ)
text_field rest = text_to rest (nul_at rest.bytes)

-- a text that a NUL ends, or the payload's end
abbrev pub last_text_to : Rest → Option ℕ → List ℕ
last_text_to rest None = rest.bytes
last_text_to rest (Some end) = take end rest.bytes

unfoldable pub last_text : Rest → List ℕ
last_text rest = last_text_to rest (nul_at rest.bytes)

-- bytes behind their number, which is spelled in the bytes before `next`
unfoldable pub counted_field : Field → Rest → Read (List ℕ)
counted_field (numbers.Value n next) rest =
    if nat_lt (length rest.bytes) (next + n) then Err (Short rest.at) else Ok (take n (drop next rest.bytes), after (next + n) rest)
counted_field numbers.Null rest = Err (Short rest.at)
counted_field numbers.Short rest = Err (Short rest.at)
counted_field numbers.Bad rest = Err (Short rest.at)

-- a text that is there or not, and is the last field or not
abbrev pub as_option : Read (List ℕ) → Read (Option (List ℕ))
as_option read = read >>= λ text. Ok (Some text.0, text.1)

unfoldable pub optional_text : (there last : Bool) → Rest → Read (Option (List ℕ))
optional_text there last rest =
    if not there then Ok (None, rest)
    else if last then Ok (Some (last_text rest), rest)
    else as_option (text_field rest)
