-- The spelling of an entry says the entry.
use Rattle.std.proofs.Common.{◌≡◌, ℕ, ◌/◌, ◌%◌, ◌^◌, ◌<◌, Bool, true, false, not, ◌==◌, nat_le, zero, suc, lit<, inl, inr, List, [], ◌∷◌, ◌++◌, length, get_or, Some, None, refl, sym, ap, ◌∙◌, arith, rules}
use Rattle.std.specs.Prelude.{slice_index, codes, Ok, decimal}
use Rattle.std.specs.List.{slice_split, onto_first, list_all, join_with_byte}
use Rattle.std.proofs.lemmas.Bool.{cases_Bool, cases_lt, and_parts, and_from, lt-ltb, le-leb, leb-true, eqb-true, or_cases, not-true}
use Rattle.std.proofs.lemmas.List.Splits.{slice_split-cons_yes, slice_split-cons_no}
use Rattle.std.proofs.lemmas.Fmt.{digits_decimal, digits_value-decimal, decimal_nonempty, decimal_digit, first_decimal}
use Rattle.std.proofs.lemmas.Str.Parse.{IsNumeralModel, numerals_by_fold}
use Rattle.std.specs.Prelude.{fold}
use Rattle.hex.specs.Hex.{encode_lower, encode_with, lower_digits, hex_digit_value, IsBytes}
use Rattle.hex.proofs.HexLemmas.{IsDigits-lower_digits, decode_of-encode_lower, decode_sized-encode_lower}
use Rattle.mx_base.specs.declared.names.Port.{Port}
use Rattle.mx_base.specs.declared.names.Port.TheVariants.{Traffic, Admin}
use Rattle.mx_base.specs.Decimal.{is_digit, with_digit, decimal_value, leads_with_zero, is_decimal, number}
use Rattle.mx_base.specs.Pieces.{is_among}
use Rattle.recording.specs.Fields.{blanks, fields, is_salt_byte, ordinal, client, server, link, port, salt, some_bytes}
use Rattle.recording.specs.Line.{said, meaning, accept, arrive, room}
use Rattle.recording.specs.Spelling.{link_text, port_text, field_texts, spelling, IsOrdinal, HasOrdinal, HasSpelling, SaysItself}
use Rattle.recording.specs.declared.entry.RecordEntry.{RecordEntry}
use Rattle.recording.specs.declared.entry.RecordEntry.TheVariants.{At, Accept, Bytes, End, Fail, Take, Refuse, Exec, Drop}
use Rattle.recording.specs.declared.entry.RecordLink.{RecordLink}
use Rattle.recording.specs.declared.entry.RecordLink.TheVariants.{Client, Server}

abbrev is_blank : ℕ → Bool
is_blank b = is_among blanks b

abbrev is_inner : ℕ → Bool
is_inner b = not (is_blank b)

-- no byte of the field is a blank
abbrev IsField : List ℕ → Type 0
IsField text = list_all is_inner text ≡ true

split_first : (text rest : List ℕ) → IsField text → slice_split is_blank (text ++ 32 ∷ rest) ≡ text ∷ slice_split is_blank rest
split_first [] rest all = slice_split-cons_yes is_blank 32 rest refl
split_first (b ∷ text) rest all =
    let parts = and_parts (is_inner b) (list_all is_inner text) all in
    slice_split-cons_no is_blank b (text ++ 32 ∷ rest) (not-true (is_blank b) parts.0) ∙ ap (onto_first b) (split_first text rest parts.1)

split_last : (text : List ℕ) → IsField text → slice_split is_blank text ≡ text ∷ []
split_last [] all = refl
split_last (b ∷ text) all =
    let parts = and_parts (is_inner b) (list_all is_inner text) all in
    slice_split-cons_no is_blank b text (not-true (is_blank b) parts.0) ∙ ap (onto_first b) (split_last text parts.1)

AreFields : List (List ℕ) → Type 0
AreFields [] = Unit {0}
AreFields (text ∷ texts) = IsField text × AreFields texts

-- fields that were joined are found again
fields_found : (first : List ℕ) (texts : List (List ℕ)) → IsField first → AreFields texts → fields (join_with_byte 32 (first ∷ texts)) ≡ first ∷ texts
unfolding AreFields
fields_found first [] one all = split_last first one
fields_found first (next ∷ texts) one all = split_first first (join_with_byte 32 (next ∷ texts)) one ∙ ap (λ xs. first ∷ xs) (fields_found next texts all.0 all.1)

weaker : (p q : ℕ → Bool) → ((b : ℕ) → p b ≡ true → q b ≡ true) → (text : List ℕ) → list_all p text ≡ true → list_all q text ≡ true
weaker p q implies [] all = refl
weaker p q implies (b ∷ text) all =
    let parts = and_parts (p b) (list_all p text) all in
    and_from (q b) (list_all q text) (implies b parts.0) (weaker p q implies text parts.1)

digit_inner : (b : ℕ) → is_digit b ≡ true → is_inner b ≡ true
digit_inner b digit = grind arith

own : IsNumeralModel (λ ds. list_all is_digit ds ≡ true) decimal_value
own = numerals_by_fold _ (search rules) (λ n ds. fold with_digit n ds) (search rules)

decimal_field : (n : ℕ) → n < 2 ^ 64 → IsField (decimal n)
decimal_field n small = weaker is_digit is_inner digit_inner (decimal n) (digits_decimal own n small)

is_decimal_from : (text : List ℕ) → 0 < length text → list_all is_digit text ≡ true → leads_with_zero text ≡ false → is_decimal text ≡ true
is_decimal_from [] some digits no_zero = absurd (omega arith)
is_decimal_from (b ∷ text) some digits no_zero = rw (digits, no_zero) refl

leads_from : (text : List ℕ) → 48 < get_or text 0 0 → leads_with_zero text ≡ false
leads_from [] above = refl
leads_from (b ∷ []) above = refl
leads_from (b ∷ c ∷ text) above = grind arith

decimal_leads : (n : ℕ) → n < 2 ^ 64 → leads_with_zero (decimal n) ≡ false
decimal_leads n small = elim (cases_lt n 10) [
  | inl one ↦ rw (decimal_digit n one) refl
  | inr more ↦ leads_from (decimal n) (first_decimal n (omega arith) small)
]

number_found : (n : ℕ) → n < 2 ^ 64 → number (decimal n) ≡ Some n
unfolding number
number_found n small =
    let decimal_is = is_decimal_from (decimal n) (decimal_nonempty n small) (digits_decimal own n small) (decimal_leads n small) in
    let value = digits_value-decimal own n small in
    let below = lt-ltb n (2 ^ 64) small in
    rw (decimal_is, value, below) refl

ordinal_found : (n : ℕ) → IsOrdinal n → ordinal (decimal n) ≡ Some n
unfolding ordinal
ordinal_found n is =
    let found = number_found n (omega arith) in
    let low = le-leb 1 n is.0 in
    let high = le-leb n 65535 is.1 in
    rw (found, low, high) refl

blank_value : (c d : ℕ) → c ≡ 32 → hex_digit_value c ≡ Some d → ⊥
blank_value c d is value =
    let none : hex_digit_value c ≡ None = rw is refl in
    cc

tab_value : (c d : ℕ) → c ≡ 9 → hex_digit_value c ≡ Some d → ⊥
tab_value c d is value =
    let none : hex_digit_value c ≡ None = rw is refl in
    cc

-- hexadecimal digits have no blanks
not_hex : (c d : ℕ) → hex_digit_value c ≡ Some d → is_inner c ≡ true
not_hex c d value = elim (cases_Bool (is_blank c)) [
  | inl blank ↦ absurd (elim (or_cases (32 == c) (is_among (9 ∷ []) c) blank) [
    | inl space ↦ blank_value c d (sym (eqb-true 32 c space)) value
    | inr other ↦ elim (or_cases (9 == c) false other) [
      | inl tab ↦ tab_value c d (sym (eqb-true 9 c tab)) value
      | inr none ↦ cc
    ]
  ])
  | inr inner ↦ rw inner refl
]

hex_digit_inner : (k : ℕ) → k < 16 → is_inner (slice_index lower_digits k) ≡ true
hex_digit_inner k small = not_hex (slice_index lower_digits k) k (IsDigits-lower_digits k small)

hex_field : (bytes : List ℕ) → IsBytes bytes → IsField (encode_lower bytes)
unfolding encode_with
hex_field [] are = refl
hex_field (b ∷ bytes) are =
    let small : b < 256 = are 0 in
    let high = hex_digit_inner (b / 16) (omega arith) in
    let low = hex_digit_inner (b % 16) (omega arith) in
    let later = hex_field bytes (λ i. let at : slice_index bytes i < 256 = are (suc i) in at) in
    rw (high, low, later) refl

client_found : (n : ℕ) → IsOrdinal n → client (link_text (Client n)) ≡ Some n
unfolding client
client_found n is = ordinal_found n is

server_found : (k : ℕ) → IsOrdinal k → server (link_text (Server k)) ≡ Some k
unfolding server
server_found k is = ordinal_found k is

link_found : (on : RecordLink) → HasOrdinal on → link (link_text on) ≡ Some on
unfolding link client server
link_found (Client n) is = rw (ordinal_found n is) refl
link_found (Server k) is = rw (ordinal_found k is) refl

link_field : (on : RecordLink) → HasOrdinal on → IsField (link_text on)
link_field (Client n) is = decimal_field n (omega (arith, is))
link_field (Server k) is = decimal_field k (omega (arith, is))

port_found : (at : Port) → port (port_text at) ≡ Some at
unfolding port
port_found Traffic = refl
port_found Admin = refl

port_field : (at : Port) → IsField (port_text at)
port_field Traffic = refl
port_field Admin = refl

salt_small : (bytes : List ℕ) → list_all is_salt_byte bytes ≡ true → IsBytes bytes
salt_small [] all i = lit< tt
salt_small (b ∷ bytes) all zero =
    let parts = and_parts (is_salt_byte b) (list_all is_salt_byte bytes) all in
    let high = and_parts (nat_le 1 b) (nat_le b 127) parts.0 in
    let most = leb-true b 127 high.1 in
    omega arith
salt_small (b ∷ bytes) all (suc i) =
    let parts = and_parts (is_salt_byte b) (list_all is_salt_byte bytes) all in
    salt_small bytes parts.1 i

salt_found : (bytes : List ℕ) → length bytes ≡ 20 → list_all is_salt_byte bytes ≡ true → salt (encode_lower bytes) ≡ Some bytes
unfolding salt
salt_found bytes size all = rw (decode_sized-encode_lower bytes 20 size (salt_small bytes all), all) refl

bytes_found : (bytes : List ℕ) → 0 < length bytes → IsBytes bytes → some_bytes (encode_lower bytes) ≡ Some bytes
unfolding some_bytes
bytes_found bytes some are =
    let test = lt-ltb 0 (length bytes) some in
    rw (decode_of-encode_lower bytes are, test) refl

-- the fields of the spelling
found : (entry : RecordEntry) → HasSpelling entry → fields (spelling entry) ≡ field_texts entry
unfolding AreFields
found (At ms) is = fields_found (codes "at") (decimal ms ∷ []) refl (decimal_field ms is, tt)
found (Accept n at bytes) is = fields_found (codes "accept") (link_text (Client n) ∷ port_text at ∷ encode_lower bytes ∷ []) refl (link_field (Client n) is.0, (port_field at, (hex_field bytes (salt_small bytes is.2), tt)))
found (Bytes on bytes) is = fields_found (codes "bytes") (link_text on ∷ encode_lower bytes ∷ []) refl (link_field on is.0, (hex_field bytes is.2, tt))
found (End on) is = fields_found (codes "end") (link_text on ∷ []) refl (link_field on is, tt)
found (Fail on) is = fields_found (codes "fail") (link_text on ∷ []) refl (link_field on is, tt)
found (Take on n) is = fields_found (codes "take") (link_text on ∷ decimal n ∷ []) refl (link_field on is.0, (decimal_field n is.1, tt))
found (Refuse k) is = fields_found (codes "refuse") (decimal k ∷ []) refl (decimal_field k (omega (arith, is)), tt)
found (Exec k) is = fields_found (codes "exec") (link_text (Server k) ∷ []) refl (link_field (Server k) is, tt)
found (Drop k) is = fields_found (codes "drop") (link_text (Server k) ∷ []) refl (link_field (Server k) is, tt)

-- what the fields say
said_of : (entry : RecordEntry) → HasSpelling entry → said (field_texts entry) ≡ Ok entry
unfolding said meaning accept arrive room
said_of (At ms) is = rw (number_found ms is) refl
said_of (Accept n at bytes) is = rw (client_found n is.0, port_found at, salt_found bytes is.1 is.2) refl
said_of (Bytes on bytes) is = rw (link_found on is.0, bytes_found bytes is.1 is.2) refl
said_of (End on) is = rw (link_found on is) refl
said_of (Fail on) is = rw (link_found on is) refl
said_of (Take on n) is = rw (link_found on is.0, number_found n is.1) refl
said_of (Refuse k) is = rw (ordinal_found k is) refl
said_of (Exec k) is = rw (server_found k is) refl
said_of (Drop k) is = rw (server_found k is) refl

pub says_itself : (entry : RecordEntry) → SaysItself entry
says_itself entry is = ap said (found entry is) ∙ said_of entry is
