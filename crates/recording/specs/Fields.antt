-- The fields of a line, and what a field denotes.
use Rattle.std.specs.Prelude.{ℕ, ◌==◌, ◌&&◌, nat_lt, nat_le, Bool, if◌then◌else◌, List, [], ◌∷◌, length, codes, Option, Some, None, Result, Ok, Err}
use Rattle.std.specs.List.{list_all}
use Rattle.std.specs.Str.{bytes_eq}
use Rattle.hex.specs.Hex.{decode_of, decode_sized}
use Rattle.hex.specs.declared.error.FromHexError.{FromHexError}
use Rattle.mx_base.specs.declared.names.Port.{Port}
use Rattle.mx_base.specs.declared.names.Port.TheVariants.{Traffic, Admin}
use Rattle.mx_base.specs.Decimal.{number}
use Rattle.mx_base.specs.Pieces.{pieces}
use Rattle.mx_base.specs.Steps.{◌>>=◌}
use Rattle.recording.specs.declared.entry.RecordLink.{RecordLink}
use Rattle.recording.specs.declared.entry.RecordLink.TheVariants.{Client, Server}

-- a space and a tab
abbrev pub blanks : List ℕ
blanks = 32 ∷ 9 ∷ []

-- between two fields stands one blank
abbrev pub fields : List ℕ → List (List ℕ)
fields line = pieces blanks line

abbrev pub in_order : ℕ → Option ℕ
in_order n = if nat_le 1 n && nat_le n 65535 then Some n else None

-- the number of a link or of an open, from 1 to 65535
unfoldable pub ordinal : List ℕ → Option ℕ
ordinal text = number text >>= in_order

abbrev pub lettered : ℕ → List ℕ → Option ℕ
lettered letter [] = None
lettered letter (b ∷ text) = if b == letter then ordinal text else None

-- c<n>
unfoldable pub client : List ℕ → Option ℕ
client text = lettered 99 text

-- s<k>
unfoldable pub server : List ℕ → Option ℕ
server text = lettered 115 text

abbrev pub either_link : Option ℕ → Option ℕ → Option RecordLink
either_link (Some n) k = Some (Client n)
either_link None (Some k) = Some (Server k)
either_link None None = None

-- c<n> or s<k>
unfoldable pub link : List ℕ → Option RecordLink
link text = either_link (client text) (server text)

unfoldable pub port : List ℕ → Option Port
port text = if bytes_eq text (codes "traffic") then Some Traffic else if bytes_eq text (codes "admin") then Some Admin else None

abbrev pub decoded : Result (List ℕ) FromHexError → Option (List ℕ)
decoded (Ok bytes) = Some bytes
decoded (Err e) = None

abbrev pub is_salt_byte : ℕ → Bool
is_salt_byte b = nat_le 1 b && nat_le b 127

-- 20 bytes from 01 to 7f, in hexadecimal digits
unfoldable pub salt : List ℕ → Option (List ℕ)
salt text = decoded (decode_sized text 20) >>= λ bytes. if list_all is_salt_byte bytes then Some bytes else None

-- bytes in hexadecimal digits, at least one
unfoldable pub some_bytes : List ℕ → Option (List ℕ)
some_bytes text = decoded (decode_of text) >>= λ bytes. if nat_lt 0 (length bytes) then Some bytes else None
