-- What the value of a key may be, and what it then denotes.
use Rattle.std.specs.Prelude.{◌≡◌, ℕ, ℤ, pos, negsuc, ◌==◌, ◌&&◌, not, nat_le, Bool, true, false, if◌then◌else◌, List, length, codes, bytes_eq, Option, Some, None, Result, Ok, Err}
use Rattle.std.specs.List.{list_any}
use Rattle.std.specs.Borrow.{Bor}
use Rattle.toml.specs.Data.{Data, as_str, as_integer}
use Rattle.hex.specs.Hex.{decode_sized}
use Rattle.hex.specs.declared.error.FromHexError.{FromHexError}
use Rattle.query_rules.specs.Patterns.{IsPattern, IsRefused}
use Rattle.std.specs.Int.{from_be_bytes, w64}
use Rattle.hostgroups.specs.declared.row.ServerStatus.{ServerStatus}
use Rattle.hostgroups.specs.declared.row.ServerStatus.TheVariants.{Online, OfflineSoft, OfflineHard}
use Rattle.mx_base.specs.declared.names.Address.{Address}
use Rattle.mx_config.specs.Address.{ipv4, address}
use Rattle.mx_config.specs.declared.fault.Kind.{Kind}
use Rattle.mx_config.specs.declared.fault.Kind.TheVariants.{WrongType, OutOfRange, BadPattern, BadAddress}
use Rattle.mx_config.specs.declared.value.TextForm.{TextForm}
use Rattle.mx_config.specs.declared.value.TextForm.TheVariants.{Any, NotEmpty, Short, Message}

-- the value, or the kind of its fault
abbrev pub Valued : Type 0 → Type 0
Valued X = Result X Kind

abbrev pub result_copied : Result (Bor (List ℕ)) Kind → Valued (List ℕ)
result_copied (Ok text) = Ok text.now
result_copied (Err kind) = Err kind

abbrev pub in_range : (least most : ℕ) → ℕ → Valued ℕ
in_range least most n = if nat_le least n && nat_le n most then Ok n else Err OutOfRange

abbrev pub whole : (least most : ℕ) → Option ℤ → Valued ℕ
whole least most None = Err WrongType
whole least most (Some (pos n)) = in_range least most n
whole least most (Some (negsuc n)) = Err OutOfRange

-- an integer in a range
unfoldable pub number : (least most : ℕ) → Data → Valued ℕ
number least most d = whole least most (as_integer d)

-- a text has no byte 0, and the length that is asked for
abbrev pub has_length : TextForm → ℕ → Bool
has_length Any n = true
has_length NotEmpty n = not (n == 0)
has_length Short n = nat_le n 255
has_length Message n = nat_le n 1024

abbrev pub fits : TextForm → List ℕ → Bool
fits form t = not (list_any (λ b. b == 0) t) && has_length form (length t)

abbrev pub formed : TextForm → Option (List ℕ) → Valued (List ℕ)
formed form None = Err WrongType
formed form (Some t) = if fits form t then Ok t else Err OutOfRange

-- a text of a form
unfoldable pub text : TextForm → Data → Valued (List ℕ)
text form d = formed form (as_str d)

abbrev pub or_bad : {X : Type 0} → Option X → Valued X
or_bad None = Err BadAddress
or_bad (Some x) = Ok x

abbrev pub spelled : {X : Type 0} → (List ℕ → Option X) → Option (List ℕ) → Valued X
spelled read None = Err WrongType
spelled read (Some t) = or_bad (read t)

-- a.b.c.d:port
unfoldable pub address_value : Data → Valued Address
address_value d = spelled address (as_str d)

-- a.b.c.d
unfoldable pub host_value : Data → Valued (List ℕ)
host_value d = spelled ipv4 (as_str d)

abbrev pub status_of : Option (List ℕ) → Valued ServerStatus
status_of None = Err WrongType
status_of (Some t) =
    if bytes_eq t (codes "ONLINE") then Ok Online
    else if bytes_eq t (codes "OFFLINE_SOFT") then Ok OfflineSoft
    else if bytes_eq t (codes "OFFLINE_HARD") then Ok OfflineHard
    else Err OutOfRange

-- a status that an operator may give
unfoldable pub status_value : Data → Valued ServerStatus
status_value d = status_of (as_str d)

abbrev pub switched : Valued ℕ → Valued Bool
switched (Ok n) = Ok (n == 1)
switched (Err kind) = Err kind

-- 1 for yes, 0 for no
unfoldable pub switch_value : Data → Valued Bool
switch_value d = switched (number 0 1 d)

abbrev pub hashed : Result (List ℕ) FromHexError → Valued ℕ
hashed (Ok bytes) = Ok (from_be_bytes w64 bytes)
hashed (Err fault) = Err OutOfRange

abbrev pub digest_of : Option (List ℕ) → Valued ℕ
digest_of None = Err WrongType
digest_of (Some t) = hashed (decode_sized t 8)

-- the hash of a digest: 16 hexadecimal digits of either case, the highest first
unfoldable pub digest_value : Data → Valued ℕ
digest_value d = digest_of (as_str d)

-- a text that is there is of a form; one that is there is a pattern
abbrev pub AllFit : TextForm → Option (List ℕ) → Type 0
AllFit form None = Unit {0}
AllFit form (Some t) = fits form t ≡ true

abbrev pub ArePatterns : Option (List ℕ) → Type 0
ArePatterns None = Unit {0}
ArePatterns (Some t) = IsPattern t

-- a test of texts that tells patterns from texts that `regex` refuses
pub record Agrees (is_pattern : List ℕ → Bool) : Type 0 where
  pub yes : (t : List ℕ) → IsPattern t → is_pattern t ≡ true
  pub no : (t : List ℕ) → IsRefused t → is_pattern t ≡ false

abbrev pub judged : (is_pattern : List ℕ → Bool) → Valued (List ℕ) → Valued (List ℕ)
judged is_pattern (Ok t) = if is_pattern t then Ok t else Err BadPattern
judged is_pattern (Err kind) = Err kind

-- a text that is a pattern
unfoldable pub pattern_value : (is_pattern : List ℕ → Bool) → Data → Valued (List ℕ)
pattern_value is_pattern d = judged is_pattern (text Any d)
