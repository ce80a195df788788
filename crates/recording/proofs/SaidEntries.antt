-- What a line says has a spelling.
use Rattle.std.proofs.Common.{◌≡◌, ℕ, ◌^◌, ◌<◌, Bool, true, false, cond, ◌==◌, ◌&&◌, nat_lt, nat_le, List, [], ◌∷◌, length, Option, Some, None, Result, Ok, Err, refl, sym, ◌∙◌, arith}
use Rattle.std.specs.Prelude.{IfSome, IfOk}
use Rattle.std.specs.List.{list_all}
use Rattle.std.specs.Option.{option_map}
use Rattle.std.proofs.lemmas.Bool.{and_parts, ltb-true, leb-true}
use Rattle.hex.specs.Hex.{IsBytes, decode_of, decode_sized}
use Rattle.hex.specs.declared.error.FromHexError.{FromHexError}
use Rattle.hex.proofs.HexLemmas.{decode_of-ok, decode_sized-ok, decode_sized-twice}
use Rattle.mx_base.specs.Decimal.{is_decimal, decimal_value, in_64_bits, number}
use Rattle.mx_base.specs.Pieces.{one, two, three}
use Rattle.mx_base.specs.Steps.{◌>>=◌}
use Rattle.recording.specs.Fields.{in_order, lettered, either_link, decoded, is_salt_byte, ordinal, client, server, link, port, salt, some_bytes}
use Rattle.recording.specs.Line.{said, said_by, or_kind, meaning, accept, arrive, room, word}
use Rattle.recording.specs.Spelling.{IsOrdinal, HasOrdinal, HasSpelling}
use Rattle.recording.specs.declared.entry.RecordEntry.{RecordEntry}
use Rattle.recording.specs.declared.entry.RecordEntry.TheVariants as entry
use Rattle.recording.specs.declared.fault.Kind.{Kind}
use Rattle.recording.specs.declared.fault.Kind.TheVariants.{BadFields}
use Rattle.recording.specs.declared.word.Word.{Word}
use Rattle.recording.specs.declared.word.Word.TheVariants.{At, Accept, Bytes, End, Fail, Take, Refuse, Exec, Drop}

module _ {A B : Type 0} (P : A → Type 0) (Q : B → Type 0) where
  -- what holds of the values of two steps
  bound : (o : Option A) (f : A → Option B) → IfSome o P → ((x : A) → P x → IfSome (f x) Q) → IfSome (o >>= f) Q
  bound None f first second = tt
  bound (Some x) f first second = second x first

  mapped : (f : A → B) (o : Option A) → IfSome o P → ((x : A) → P x → Q (f x)) → IfSome (option_map f o) Q
  mapped f None first second = tt
  mapped f (Some x) first second = second x first

abbrev Anything : {A : Type 0} → A → Type 0
Anything x = Unit {0}

anything : {A : Type 0} (o : Option A) → IfSome o Anything
anything None = tt
anything (Some x) = tt

-- what holds of a value that a test lets through
passed : {A : Type 0} (P : A → Type 0) (b : Bool) (o : Option A) → (b ≡ true → IfSome o P) → IfSome (cond b o None) P
passed P true o holds = holds refl
passed P false o holds = tt

abbrev In64Bits : ℕ → Type 0
In64Bits n = n < 2 ^ 64

in_64_bits_is : (n : ℕ) → IfSome (in_64_bits n) In64Bits
in_64_bits_is n = passed In64Bits (nat_lt n (2 ^ 64)) (Some n) (ltb-true n (2 ^ 64))

number_is : (text : List ℕ) → IfSome (number text) In64Bits
unfolding number
number_is text = passed In64Bits (is_decimal text) (in_64_bits (decimal_value text)) (λ _. in_64_bits_is (decimal_value text))

in_order_is : (n : ℕ) → IfSome (in_order n) IsOrdinal
in_order_is n = passed IsOrdinal (nat_le 1 n && nat_le n 65535) (Some n) (λ both.
    let parts = and_parts (nat_le 1 n) (nat_le n 65535) both in
    (leb-true 1 n parts.0, leb-true n 65535 parts.1))

ordinal_is : (text : List ℕ) → IfSome (ordinal text) IsOrdinal
unfolding ordinal
ordinal_is text = bound Anything IsOrdinal (number text) in_order (anything (number text)) (λ n any. in_order_is n)

lettered_is : (letter : ℕ) (text : List ℕ) → IfSome (lettered letter text) IsOrdinal
lettered_is letter [] = tt
lettered_is letter (b ∷ text) = passed IsOrdinal (b == letter) (ordinal text) (λ _. ordinal_is text)

client_is : (text : List ℕ) → IfSome (client text) IsOrdinal
unfolding client
client_is text = lettered_is 99 text

server_is : (text : List ℕ) → IfSome (server text) IsOrdinal
unfolding server
server_is text = lettered_is 115 text

either_is : (n k : Option ℕ) → IfSome n IsOrdinal → IfSome k IsOrdinal → IfSome (either_link n k) HasOrdinal
either_is (Some n) k as_client as_server = as_client
either_is None (Some k) as_client as_server = as_server
either_is None None as_client as_server = tt

link_is : (text : List ℕ) → IfSome (link text) HasOrdinal
unfolding link
link_is text = either_is (client text) (server text) (client_is text) (server_is text)

-- what holds of decoded bytes, where it holds of what the digits spell
decoded_if : (P : List ℕ → Type 0) (r : Result (List ℕ) FromHexError) → ((bytes : List ℕ) → r ≡ Ok bytes → P bytes) → IfSome (decoded r) P
decoded_if P (Ok bytes) holds = holds bytes refl
decoded_if P (Err e) holds = tt

sized : (text : List ℕ) (n : ℕ) (bytes : List ℕ) → decode_sized text n ≡ Ok bytes → length bytes ≡ n
sized text n bytes is =
    let twice = decode_sized-ok text n bytes is in
    let digits = decode_of-ok text bytes (sym (decode_sized-twice text n twice) ∙ is) in
    let same = digits.2 in
    omega arith

abbrev AreSaltBytes : List ℕ → Type 0
AreSaltBytes bytes = (length bytes ≡ 20) × (list_all is_salt_byte bytes ≡ true)

salt_is : (text : List ℕ) → IfSome (salt text) AreSaltBytes
unfolding salt
salt_is text = bound (λ bytes. length bytes ≡ 20) AreSaltBytes (decoded (decode_sized text 20)) _
    (decoded_if (λ bytes. length bytes ≡ 20) (decode_sized text 20) (sized text 20))
    (λ bytes size. passed AreSaltBytes (list_all is_salt_byte bytes) (Some bytes) (λ all. (size, all)))

abbrev AreSomeBytes : List ℕ → Type 0
AreSomeBytes bytes = (0 < length bytes) × IsBytes bytes

some_bytes_are : (text : List ℕ) → IfSome (some_bytes text) AreSomeBytes
unfolding some_bytes
some_bytes_are text = bound IsBytes AreSomeBytes (decoded (decode_of text)) _
    (decoded_if IsBytes (decode_of text) (λ bytes is. (decode_of-ok text bytes is).3))
    (λ bytes are. passed AreSomeBytes (nat_lt 0 (length bytes)) (Some bytes) (λ some. (ltb-true 0 (length bytes) some, are)))

accept_spelled : (rest : List (List ℕ)) → IfSome (accept rest) HasSpelling
unfolding accept
accept_spelled rest = bound Anything HasSpelling (three rest) _ (anything (three rest)) (λ field any.
    bound IsOrdinal HasSpelling (client field.0) _ (client_is field.0) (λ n is.
    bound Anything HasSpelling (port field.1) _ (anything (port field.1)) (λ at any_port.
    bound AreSaltBytes HasSpelling (salt field.2) _ (salt_is field.2) (λ bytes are. (is, are.0, are.1)))))

arrive_spelled : (rest : List (List ℕ)) → IfSome (arrive rest) HasSpelling
unfolding arrive
arrive_spelled rest = bound Anything HasSpelling (two rest) _ (anything (two rest)) (λ field any.
    bound HasOrdinal HasSpelling (link field.0) _ (link_is field.0) (λ on is.
    bound AreSomeBytes HasSpelling (some_bytes field.1) _ (some_bytes_are field.1) (λ bytes are. (is, are.0, are.1))))

room_spelled : (rest : List (List ℕ)) → IfSome (room rest) HasSpelling
unfolding room
room_spelled rest = bound Anything HasSpelling (two rest) _ (anything (two rest)) (λ field any.
    bound HasOrdinal HasSpelling (link field.0) _ (link_is field.0) (λ on is.
    bound In64Bits HasSpelling (number field.1) _ (number_is field.1) (λ n below. (is, below))))

-- an entry of one field
single_spelled : {A : Type 0} (P : A → Type 0) (read : List ℕ → Option A) (make : A → RecordEntry) (rest : List (List ℕ))
    → ((text : List ℕ) → IfSome (read text) P) → ((x : A) → P x → HasSpelling (make x)) → IfSome (option_map make (one rest >>= read)) HasSpelling
single_spelled P read make rest reads makes =
    mapped P HasSpelling make (one rest >>= read) (bound Anything P (one rest) read (anything (one rest)) (λ text any. reads text)) makes

meaning_spelled : (w : Word) (rest : List (List ℕ)) → IfSome (meaning w rest) HasSpelling
unfolding meaning
meaning_spelled At rest = single_spelled In64Bits number entry.At rest number_is (λ ms below. below)
meaning_spelled Accept rest = accept_spelled rest
meaning_spelled Bytes rest = arrive_spelled rest
meaning_spelled End rest = single_spelled HasOrdinal link entry.End rest link_is (λ on is. is)
meaning_spelled Fail rest = single_spelled HasOrdinal link entry.Fail rest link_is (λ on is. is)
meaning_spelled Take rest = room_spelled rest
meaning_spelled Refuse rest = single_spelled IsOrdinal ordinal entry.Refuse rest ordinal_is (λ k is. is)
meaning_spelled Exec rest = single_spelled IsOrdinal server entry.Exec rest server_is (λ k is. is)
meaning_spelled Drop rest = single_spelled IsOrdinal server entry.Drop rest server_is (λ k is. is)

or_kind_spelled : (o : Option RecordEntry) (kind : Kind) → IfSome o HasSpelling → IfOk (or_kind o kind) HasSpelling
or_kind_spelled None kind spelled = tt
or_kind_spelled (Some e) kind spelled = spelled

said_by_spelled : (w : Option Word) (rest : List (List ℕ)) → IfOk (said_by w rest) HasSpelling
said_by_spelled None rest = tt
said_by_spelled (Some w) rest = or_kind_spelled (meaning w rest) BadFields (meaning_spelled w rest)

pub has_spelling : (texts : List (List ℕ)) → IfOk (said texts) HasSpelling
unfolding said
has_spelling [] = tt
has_spelling (first ∷ rest) = said_by_spelled (word first) rest
