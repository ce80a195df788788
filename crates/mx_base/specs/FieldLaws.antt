-- A number that was spelled is read again.
use Rattle.std.specs.Prelude.{◌≡◌, ◌<◌, ◌≤◌, ℕ, zero, suc, ◌+◌, ◌/◌, ◌%◌, ◌^◌, List, [], ◌∷◌, ◌++◌, length, Some, refl}
use Rattle.std.specs.Int.{byte_at, bytes_low_first}
use Rattle.std.proofs.Common.{sym, ◌∙◌, ap, arith, length-append, append_assoc, inl, inr}
use Rattle.std.proofs.lemmas.Bool.{cases_lt, lt-ltb, le-ltb}
use Rattle.std.proofs.lemmas.List.{take_at, drop_at}
use Rattle.std.proofs.Math.Nat.{pow-succ', pow-suc, div-one, div-div-eq-div-mul}
use Rattle.mx_base.specs.declared.fields.Field.TheVariants.{Value}
use Rattle.mx_base.specs.Fields.{little_endian, number_at, number_bytes, lenenc_at, lenenc}

-- the lowest byte of what is left of a number
byte_at-is : (i n : ℕ) → byte_at i n ≡ n / 256 ^ i % 256
byte_at-is zero n = rw (div-one n) refl
byte_at-is (suc i) n = refl

little_endian-bytes_low_first : (i size n : ℕ) → n / 256 ^ i < 256 ^ size → little_endian (bytes_low_first i size n) ≡ n / 256 ^ i
little_endian-bytes_low_first i zero n small = omega arith
little_endian-bytes_low_first i (suc size) n small =
    let left : n / 256 ^ suc i ≡ n / 256 ^ i / 256 = rw (pow-suc 256 i) (sym (div-div-eq-div-mul n (256 ^ i) 256)) in
    let small_left : n / 256 ^ suc i < 256 ^ size = rw left (omega (arith, pow-succ' 256 size, small)) in
    let others : little_endian (bytes_low_first (suc i) size n) ≡ n / 256 ^ i / 256 = little_endian-bytes_low_first (suc i) size n small_left ∙ left in
    rw (others, byte_at-is i n) (omega arith)

length-bytes_low_first : (i size n : ℕ) → length (bytes_low_first i size n) ≡ size
length-bytes_low_first i zero n = refl
length-bytes_low_first i (suc size) n = ap suc (length-bytes_low_first (suc i) size n)

pub length-number_bytes : (size n : ℕ) → length (number_bytes size n) ≡ size
length-number_bytes size n = length-bytes_low_first 0 size n

pub little_endian-number_bytes : (size n : ℕ) → n < 256 ^ size → little_endian (number_bytes size n) ≡ n
little_endian-number_bytes size n small = little_endian-bytes_low_first 0 size n (rw (div-one n) small) ∙ div-one n

-- the bytes that stand at a place are the number there
pub number_at-there : (size : ℕ) (before bytes rest : List ℕ) → length bytes ≡ size → number_at size (length before) (before ++ (bytes ++ rest)) ≡ Some (little_endian bytes)
number_at-there size before bytes rest is =
    let long : length before + size ≤ length (before ++ (bytes ++ rest)) = omega (arith, length-append before (bytes ++ rest), length-append bytes rest) in
    rw (le-ltb _ _ long, drop_at before (bytes ++ rest) (length before) refl, take_at bytes rest size is) refl

pub number_at-again : (size n : ℕ) (before rest : List ℕ) → n < 256 ^ size → number_at size (length before) (before ++ (number_bytes size n ++ rest)) ≡ Some n
number_at-again size n before rest small = number_at-there size before (number_bytes size n) rest (length-number_bytes size n) ∙ ap Some (little_endian-number_bytes size n small)

-- a number of so many bytes behind the byte that says how many
behind : (first size n : ℕ) (before rest : List ℕ) → n < 256 ^ size → number_at size (length before + 1) (before ++ ((first ∷ number_bytes size n) ++ rest)) ≡ Some n
behind first size n before rest small =
    let front : List ℕ = before ++ first ∷ [] in
    let place : length front ≡ length before + 1 = omega (arith, length-append before (first ∷ [])) in
    let bytes : before ++ ((first ∷ number_bytes size n) ++ rest) ≡ front ++ (number_bytes size n ++ rest) = sym (append_assoc before (first ∷ []) (number_bytes size n ++ rest)) in
    rw (bytes, ← place) (number_at-again size n front rest small)

first_byte : (first : ℕ) (before bytes rest : List ℕ) → number_at 1 (length before) (before ++ ((first ∷ bytes) ++ rest)) ≡ Some first
first_byte first before bytes rest = number_at-there 1 before (first ∷ []) (bytes ++ rest) refl ∙ ap Some (omega arith)

pub lenenc_at-again : (n : ℕ) (before rest : List ℕ) → n < 2 ^ 64 → lenenc_at (length before) (before ++ (lenenc n ++ rest)) ≡ Value n (length before + length (lenenc n))
lenenc_at-again n before rest small =
    elim (cases_lt n 251) [
      | inl one ↦ rw (lt-ltb n 251 one, first_byte n before [] rest, lt-ltb n 251 one) refl
      | inr more ↦ elim (cases_lt n 65536) [
        | inl two ↦ rw (le-ltb n 251 more, lt-ltb n 65536 two, first_byte 252 before (number_bytes 2 n) rest, behind 252 2 n before rest two) refl
        | inr more ↦ elim (cases_lt n 16777216) [
          | inl three ↦ rw (le-ltb n 251 (omega arith), le-ltb n 65536 more, lt-ltb n 16777216 three, first_byte 253 before (number_bytes 3 n) rest, behind 253 3 n before rest three) refl
          | inr more ↦ rw (le-ltb n 251 (omega arith), le-ltb n 65536 (omega arith), le-ltb n 16777216 more, first_byte 254 before (number_bytes 8 n) rest, behind 254 8 n before rest small) refl
        ]
      ]
    ]
