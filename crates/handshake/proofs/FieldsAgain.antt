-- A field that was written is read again, whatever follows it.
use Rattle.std.specs.Prelude.{◌≡◌, ◌≢◌, ◌<◌, ◌≤◌, ℕ, ◌+◌, ◌^◌, ◌==◌, false, nat_eq, List, [], ◌∷◌, ◌++◌, length, drop, Some, Ok, refl, None}
use Rattle.std.specs.List.{position_or_len}
use Rattle.std.proofs.Common.{◌∙◌, ap, arith, length-append, append_assoc, inl, inr}
use Rattle.std.proofs.lemmas.Bool.{lt-ltb, le-ltb}
use Rattle.std.proofs.lemmas.Bool.Decides.{nat_tests}
use Rattle.std.proofs.lemmas.List.{append-nil, take_at, drop_at}
use Rattle.std.proofs.lemmas.List.Elements.{All-head, All-tail}
use Rattle.mx_base.specs.Fields.{little_endian, number_bytes}
use Rattle.mx_base.specs.FieldLaws.{length-number_bytes, little_endian-number_bytes, number_at-there}
use Rattle.handshake.specs.Reading.{Rest, number_field, bytes_field, nul_at, text_field, last_text}
use Rattle.handshake.specs.Spelling.{IsText, IsEnding, spelled}

abbrev pub rest_of : List ℕ → ℕ → Rest
rest_of bytes at = record { bytes = bytes; at = at }

pub number_field-is : (size : ℕ) (bytes more : List ℕ) (at n : ℕ) → length bytes ≡ size → little_endian bytes ≡ n → number_field size (rest_of (bytes ++ more) at) ≡ Ok (n, rest_of more (at + size))
unfolding number_field
number_field-is size bytes more at n long is = rw (number_at-there size [] bytes more long, drop_at bytes more size long, is) refl

pub number_field-again : (size n : ℕ) (more : List ℕ) (at : ℕ) → n < 256 ^ size → number_field size (rest_of (number_bytes size n ++ more) at) ≡ Ok (n, rest_of more (at + size))
number_field-again size n more at small = number_field-is size (number_bytes size n) more at n (length-number_bytes size n) (little_endian-number_bytes size n small)

pub bytes_field-again : (n : ℕ) (bytes more : List ℕ) (at : ℕ) → length bytes ≡ n → bytes_field n (rest_of (bytes ++ more) at) ≡ Ok (bytes, rest_of more (at + n))
unfolding bytes_field
bytes_field-again n bytes more at is =
    let long : n ≤ length (bytes ++ more) = omega (arith, length-append bytes more) in
    rw (le-ltb _ _ long, take_at bytes more n is, drop_at bytes more n is) refl

not_nul : (b : ℕ) → b ≢ 0 → nat_eq b 0 ≡ false
not_nul b is = grind (arith, nat_tests)

-- the first NUL is the one behind a text
first_nul : (text more : List ℕ) → IsText text → position_or_len (λ b. b == 0) (text ++ 0 ∷ more) ≡ length text
first_nul [] more is = refl
first_nul (b ∷ text) more is = rw (not_nul b (All-head (λ b. b ≢ 0) b text is)) (ap (λ (n : ℕ). 1 + n) (first_nul text more (All-tail (λ b. b ≢ 0) b text is)) ∙ omega arith)

pub nul_at-again : (text more : List ℕ) → IsText text → nul_at (text ++ 0 ∷ more) ≡ Some (length text)
nul_at-again text more is =
    let there : length text < length (text ++ 0 ∷ more) = omega (arith, length-append text (0 ∷ more)) in
    rw (first_nul text more is, lt-ltb _ _ there) refl

drop_behind : (text more : List ℕ) → drop (length text + 1) (text ++ 0 ∷ more) ≡ more
drop_behind text more = rw (← append_assoc text (0 ∷ []) more) (drop_at (text ++ 0 ∷ []) more (length text + 1) (length-append text (0 ∷ [])))

pub text_field-again : (text more : List ℕ) (at : ℕ) → IsText text → text_field (rest_of (text ++ 0 ∷ more) at) ≡ Ok (text, rest_of more (at + (length text + 1)))
unfolding text_field
text_field-again text more at is =
    rw (nul_at-again text more is, take_at text (0 ∷ more) (length text) refl, drop_behind text more) refl

-- where the payload ends a text, there is no NUL
no_nul : (text : List ℕ) → IsText text → position_or_len (λ b. b == 0) text ≡ length text
no_nul [] is = refl
no_nul (b ∷ text) is = rw (not_nul b (All-head (λ b. b ≢ 0) b text is)) (ap (λ (n : ℕ). 1 + n) (no_nul text (All-tail (λ b. b ≢ 0) b text is)) ∙ omega arith)

nul_at-none : (text : List ℕ) → IsText text → nul_at text ≡ None
nul_at-none text is = rw (no_nul text is, le-ltb (length text) (length text) (omega arith)) refl

last_text-whole : (text : List ℕ) (at : ℕ) → IsText text → last_text (rest_of text at) ≡ text
unfolding last_text
last_text-whole text at is = rw (nul_at-none text is) refl

pub last_text-again : (text ending more : List ℕ) (at : ℕ) → IsText text → IsEnding ending more → last_text (rest_of (text ++ (ending ++ more)) at) ≡ text
unfolding last_text
last_text-again text ending more at is (inl by_nul) = rw (by_nul, nul_at-again text more is, take_at text (0 ∷ more) (length text) refl) refl
last_text-again text ending more at is (inr by_end) = rw (by_end.0, by_end.1, append-nil text) (last_text-whole text at is)

pub spelled-more : (fields : List (List ℕ)) (more others : List ℕ) → spelled fields more ++ others ≡ spelled fields (more ++ others)
spelled-more [] more others = refl
spelled-more (field ∷ fields) more others = append_assoc field (spelled fields more) others ∙ ap (λ (bytes : List ℕ). field ++ bytes) (spelled-more fields more others)
