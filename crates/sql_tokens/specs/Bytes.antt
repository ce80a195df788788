-- Bytes of a statement: their classes, and what stands at the front of some bytes.
use Rattle.std.specs.Prelude.{ℕ, ◌+◌, Bool, not, ◌||◌, ◌&&◌, nat_lt, nat_le, nat_eq, List, length, slice_index_or, Option, Some, None, if◌then◌else◌}
use Rattle.std.specs.Char.{is_ascii_alphanumeric, is_ascii_control, is_ascii_digit}

-- white space: tab to carriage return, and the space
abbrev pub is_white : ℕ → Bool
is_white b = (nat_le 9 b && nat_le b 13) || nat_eq b 32

-- what has to follow `--` for a comment: white space or a control byte
abbrev pub is_white_or_control : ℕ → Bool
is_white_or_control b = is_ascii_control b || nat_eq b 32

-- the bytes of words: ASCII letters, digits, `_`, `$`, and bytes from 0x80
abbrev pub is_word_byte : ℕ → Bool
is_word_byte b = is_ascii_alphanumeric b || nat_eq b 95 || nat_eq b 36 || nat_le 128 b

-- a word begins: a byte of words that is no digit
abbrev pub begins_word : List ℕ → Bool
begins_word bytes = is_word_byte (slice_index_or bytes 0 0) && not (is_ascii_digit (slice_index_or bytes 0 0))

-- bytes that begin no token but a Symbol: `(` to `,`, and `;` to `?`
abbrev pub is_lone_byte : ℕ → Bool
is_lone_byte b = (nat_le 40 b && nat_le b 44) || (nat_le 59 b && nat_le b 63)

-- one of them stands at the front
abbrev pub begins_symbol : List ℕ → Bool
begins_symbol bytes = is_lone_byte (slice_index_or bytes 0 0)

-- the bytes of a variable's name: those of words, and `.`
abbrev pub is_name_byte : ℕ → Bool
is_name_byte b = is_word_byte b || nat_eq b 46

-- this byte stands at this place
abbrev pub has_byte : List ℕ → (place byte : ℕ) → Bool
has_byte bytes place byte = nat_lt place (length bytes) && nat_eq (slice_index_or bytes place 0) byte

-- an end that is so many bytes later
abbrev pub later : ℕ → Option ℕ → Option ℕ
later count None = None
later count (Some end) = Some (count + end)

-- so many bytes and behind them a run, which mustn't be empty; 0 where it is
abbrev pub followed_by : (front run : ℕ) → ℕ
followed_by front run = if nat_eq run 0 then 0 else front + run
