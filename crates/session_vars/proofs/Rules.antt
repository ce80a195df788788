-- Which token a word, a number, a quoted text and a symbol are, where a piece ends behind them.
use Rattle.std.proofs.Common.{◌≡◌, ◌≤◌, ◌<◌, ℕ, suc, ◌+◌, ◌-◌, Bool, true, false, ◌&&◌, ◌||◌, not, cond, nat_eq, nat_lt, nat_le, List, [], ◌∷◌, ◌++◌, length, get_or, take, Some, refl, sym, subst, ◌∙◌, ap, inl, inr, arith, append_assoc, length-append, eq-eqb}
use Rattle.std.specs.Char.{is_ascii_digit, is_ascii_hexdigit}
use Rattle.std.specs.List.{prefix_len, list_all}
use Rattle.std.proofs.lemmas.Bool.{cond-true, cond-false, cases_lt, cases_Bool, both_ways, and_parts, and_from, and_left, and_right, or_cases, or_left, or_from, eqb-true, leb-true, ne_eqb, lt-ltb, not_from_false, agree_below, agree_below_at}
use Rattle.std.proofs.lemmas.List.Folds.{list_all-append}
use Rattle.std.proofs.Math.Seq.{take-append-add, take-append_seam, take-length}
use Rattle.sql_tokens.specs.Bytes.{followed_by, has_byte, is_name_byte, is_white, is_word_byte, later}
use Rattle.sql_tokens.specs.Comments.{begins_line_comment, begins_block}
use Rattle.sql_tokens.specs.Marks.{IsPlain, IsInside}
use Rattle.sql_tokens.specs.Numbers.{number_length}
use Rattle.sql_tokens.specs.Numerals.{IsFraction, AreSigned, IsExponent, IsNumeral}
use Rattle.sql_tokens.specs.Quotes.{begins_quoted, begins_name, quoted_length, to_closing}
use Rattle.sql_tokens.specs.Tokens.{closed, plain_token_at, token_at}
use Rattle.sql_tokens.specs.Words.{inside}
use Rattle.sql_tokens.specs.Variables.{system_variable_length}
use Rattle.sql_tokens.specs.declared.token.TokenKind.{TokenKind}
use Rattle.sql_tokens.specs.declared.token.TokenKind.TheVariants.{Word, Quoted, Number, SysVar, Symbol}
use Rattle.sql_tokens.proofs.Insides.{closes_closing}
use Rattle.sql_tokens.proofs.Lengths.{number_length-le}
use Rattle.sql_tokens.proofs.LongestNumbers.{number_found, longest_number}
use Rattle.sql_tokens.proofs.WordStarts.{other, not_first, no_number, word_first}
use Rattle.session_vars.specs.Values.{is_plain_byte}
use Rattle.session_vars.proofs.Pieces.{Stops, IsPiece, run_stops, stops_at}

-- a byte that begins no comment, quoted text, name or variable
pub record IsOrdinary (b : ℕ) : Type 0 where
  pub no_hash : nat_eq b 35 ≡ false
  pub no_dash : nat_eq b 45 ≡ false
  pub no_slash : nat_eq b 47 ≡ false
  pub no_single : nat_eq b 39 ≡ false
  pub no_double : nat_eq b 34 ≡ false
  pub no_backtick : nat_eq b 96 ≡ false
  pub no_at : nat_eq b 64 ≡ false

-- a byte that passes a test which none of those passes is ordinary
ordinary_by : (p : ℕ → Bool) (b : ℕ) → p b ≡ true → p 35 ≡ false → p 45 ≡ false → p 47 ≡ false → p 39 ≡ false → p 34 ≡ false → p 96 ≡ false → p 64 ≡ false → IsOrdinary b
ordinary_by p b is hash dash slash single double backtick at = record {
  no_hash = other p b 35 is hash;
  no_dash = other p b 45 is dash;
  no_slash = other p b 47 is slash;
  no_single = other p b 39 is single;
  no_double = other p b 34 is double;
  no_backtick = other p b 96 is backtick;
  no_at = other p b 64 is at;
}

-- and one that passes a test which no white space passes isn't white space
white_small : (b : ℕ) → is_white b ≡ true → b < 33
white_small b white =
    elim (or_cases (nat_le 9 b && nat_le b 13) (nat_eq b 32) white) [
      | inl run ↦ let top : b ≤ 13 = leb-true b 13 (and_parts (nat_le 9 b) (nat_le b 13) run).1 in omega arith
      | inr blank ↦ let same : b ≡ 32 = eqb-true b 32 blank in omega arith
    ]

dark_by : (p : ℕ → Bool) (b : ℕ) → p b ≡ true → agree_below (λ n. is_white n && p n) (λ n. false) 33 ≡ true → is_white b ≡ false
dark_by p b is apart =
    elim (cases_Bool (is_white b)) [
      | inl white ↦ absurd (both_ways (is_white b && p b) (agree_below_at (λ n. is_white n && p n) (λ n. false) 33 b apart (white_small b white)) (and_from (is_white b) (p b) white is))
      | inr dark ↦ dark
    ]

pub is_first : (b : ℕ) (bytes : List ℕ) → has_byte (b ∷ bytes) 0 b ≡ true
is_first b bytes = and_from (nat_lt 0 (length (b ∷ bytes))) (nat_eq b b) (lt-ltb 0 (length (b ∷ bytes)) (omega arith)) (eq-eqb b b refl)

-- a number, or a word, or a symbol
abbrev word_or_symbol : List ℕ → TokenKind × ℕ
word_or_symbol bytes = cond (not (nat_eq (prefix_len is_word_byte bytes) 0)) (Word, prefix_len is_word_byte bytes) (Symbol, 1)

abbrev number_or_less : List ℕ → TokenKind × ℕ
number_or_less bytes = cond (not (nat_eq (number_length bytes) 0)) (Number, number_length bytes) (word_or_symbol bytes)

no_variable : (b : ℕ) (bytes : List ℕ) → nat_eq b 64 ≡ false → plain_token_at (b ∷ bytes) ≡ number_or_less (b ∷ bytes)
unfolding plain_token_at system_variable_length
no_variable b bytes no_at =
    let none : system_variable_length (b ∷ bytes) ≡ 0 = cond-false (has_byte (b ∷ bytes) 0 64 && has_byte (b ∷ bytes) 1 64) _ 0 (and_left _ _ (not_first b 64 bytes no_at)) in
    cond-false (not (nat_eq (system_variable_length (b ∷ bytes)) 0)) _ _ (ap (λ n. not (nat_eq n 0)) none)
    ∙ cond-false (has_byte (b ∷ bytes) 0 64) _ _ (not_first b 64 bytes no_at)

ordinary_rule : (b : ℕ) (bytes : List ℕ) → IsOrdinary b → token_at (b ∷ bytes) ≡ number_or_less (b ∷ bytes)
unfolding token_at begins_line_comment begins_block begins_quoted begins_name
ordinary_rule b bytes is =
    cond-false (begins_line_comment (b ∷ bytes)) _ _ (or_from _ _ (not_first b 35 bytes is.no_hash) (and_left _ _ (and_left _ _ (not_first b 45 bytes is.no_dash))))
    ∙ cond-false (begins_block (b ∷ bytes)) _ _ (and_left _ _ (not_first b 47 bytes is.no_slash))
    ∙ cond-false (begins_quoted (b ∷ bytes)) _ _ (or_from _ _ (not_first b 39 bytes is.no_single) (not_first b 34 bytes is.no_double))
    ∙ cond-false (begins_name (b ∷ bytes)) _ _ (not_first b 96 bytes is.no_backtick)
    ∙ no_variable b bytes is.no_at

-- a word: word bytes, the first of which is no digit
abbrev pub IsWordText : List ℕ → Type 0
IsWordText [] = ⊥
IsWordText (b ∷ bytes) = (is_ascii_digit b ≡ false) × (list_all is_word_byte (b ∷ bytes) ≡ true)

not_number : (b : ℕ) (bytes : List ℕ) → is_ascii_digit b ≡ false → nat_eq b 46 ≡ false → number_or_less (b ∷ bytes) ≡ word_or_symbol (b ∷ bytes)
not_number b bytes no_digit no_point = cond-false (not (nat_eq (number_length (b ∷ bytes)) 0)) _ _ (ap (λ n. not (nat_eq n 0)) (no_number b bytes no_digit no_point))

not_word : (b : ℕ) (bytes : List ℕ) → is_word_byte b ≡ false → word_or_symbol (b ∷ bytes) ≡ (Symbol, 1)
not_word b bytes no_word =
    let none : prefix_len is_word_byte (b ∷ bytes) ≡ 0 = cond-false (is_word_byte b) (1 + prefix_len is_word_byte bytes) 0 no_word in
    cond-false (not (nat_eq (prefix_len is_word_byte (b ∷ bytes)) 0)) _ _ (ap (λ n. not (nat_eq n 0)) none)

no_number_first : (b : ℕ) (bytes : List ℕ) → IsOrdinary b → is_ascii_digit b ≡ false → nat_eq b 46 ≡ false → token_at (b ∷ bytes) ≡ word_or_symbol (b ∷ bytes)
no_number_first b bytes ordinary no_digit no_point =
    ordinary_rule b bytes ordinary ∙ not_number b bytes no_digit no_point

pub word_piece : (part rest : List ℕ) → IsWordText part → Stops rest → IsPiece Word part rest
word_piece [] rest is stops = absurd is
word_piece (b ∷ bytes) rest is stops =
    let part = b ∷ bytes in
    let word : is_word_byte b ≡ true = (and_parts (is_word_byte b) (list_all is_word_byte bytes) is.1).0 in
    let run : prefix_len is_word_byte (part ++ rest) ≡ length part = run_stops is_word_byte part rest is.1 refl refl refl refl stops in
    record {
      some = omega arith;
      dark = dark_by is_word_byte b word refl;
      rule = word_first b (bytes ++ rest) word is.0 ∙ ap (λ (n : ℕ). (Word, n)) run;
    }

-- `=` and `,`
pub symbol_piece : (b : ℕ) (rest : List ℕ) → IsOrdinary b → is_ascii_digit b ≡ false → nat_eq b 46 ≡ false → is_word_byte b ≡ false → is_white b ≡ false → IsPiece Symbol (b ∷ []) rest
symbol_piece b rest ordinary no_digit no_point no_word dark =
    record { some = omega arith; dark = dark; rule = no_number_first b rest ordinary no_digit no_point ∙ not_word b rest no_word }

-- the bytes of numbers
abbrev is_numeral_byte : ℕ → Bool
is_numeral_byte b = is_ascii_hexdigit b || (nat_eq b 120 || (nat_eq b 46 || (nat_eq b 43 || nat_eq b 45)))

digit_is : (b : ℕ) → is_ascii_digit b ≡ true → is_numeral_byte b ≡ true
digit_is b digit = or_left _ _ (or_left _ _ (or_left _ _ digit))

all_weaker : (p q : ℕ → Bool) (bytes : List ℕ) → ((b : ℕ) → p b ≡ true → q b ≡ true) → list_all p bytes ≡ true → list_all q bytes ≡ true
all_weaker p q [] weaker all = refl
all_weaker p q (b ∷ bytes) weaker all =
    let parts = and_parts (p b) (list_all p bytes) all in
    and_from (q b) (list_all q bytes) (weaker b parts.0) (all_weaker p q bytes weaker parts.1)

all_digits : (bytes : List ℕ) → list_all is_ascii_digit bytes ≡ true → list_all is_numeral_byte bytes ≡ true
all_digits bytes all = all_weaker is_ascii_digit is_numeral_byte bytes digit_is all

fraction_bytes : (bytes : List ℕ) → IsFraction bytes → list_all is_numeral_byte bytes ≡ true
fraction_bytes [] is = refl
fraction_bytes (b ∷ bytes) is = and_from (is_numeral_byte b) (list_all is_numeral_byte bytes) (ap is_numeral_byte is.0) (all_digits bytes is.1.1)

signed_bytes : (bytes : List ℕ) → AreSigned bytes → list_all is_numeral_byte bytes ≡ true
signed_bytes [] are = refl
signed_bytes (b ∷ bytes) are =
    elim are [
      | inl signed ↦ and_from (is_numeral_byte b) (list_all is_numeral_byte bytes) (elim signed.0 [ inl plus ↦ ap is_numeral_byte plus | inr minus ↦ ap is_numeral_byte minus ]) (all_digits bytes signed.1.1)
      | inr bare ↦ all_digits (b ∷ bytes) bare.1
    ]

exponent_bytes : (bytes : List ℕ) → IsExponent bytes → list_all is_numeral_byte bytes ≡ true
exponent_bytes [] is = refl
exponent_bytes (b ∷ bytes) is = and_from (is_numeral_byte b) (list_all is_numeral_byte bytes) (elim is.0 [ inl small ↦ ap is_numeral_byte small | inr large ↦ ap is_numeral_byte large ]) (signed_bytes bytes is.1)

all_joined : (p : ℕ → Bool) (xs ys : List ℕ) → list_all p xs ≡ true → list_all p ys ≡ true → list_all p (xs ++ ys) ≡ true
all_joined p xs ys in_xs in_ys = list_all-append p xs ys ∙ and_from (list_all p xs) (list_all p ys) in_xs in_ys

numeral_bytes : (bytes : List ℕ) → IsNumeral bytes → list_all is_numeral_byte bytes ≡ true
numeral_bytes bytes is =
    elim is [
      | inl hex ↦ ap (list_all is_numeral_byte) hex.parts ∙ all_weaker is_ascii_hexdigit is_numeral_byte hex.digits (λ b digit. or_left _ _ digit) hex.some.1
      | inr dec ↦ ap (list_all is_numeral_byte) dec.parts ∙ all_joined is_numeral_byte dec.integer (dec.fraction ++ dec.exponent) (all_digits dec.integer dec.is_integer) (all_joined is_numeral_byte dec.fraction dec.exponent (fraction_bytes dec.fraction dec.is_fraction) (exponent_bytes dec.exponent dec.is_exponent))
    ]

-- a number begins with a digit or a point
abbrev is_numeral_first : ℕ → Bool
is_numeral_first b = is_ascii_digit b || nat_eq b 46

abbrev BeginsNumeral : List ℕ → Type 0
BeginsNumeral [] = ⊥
BeginsNumeral (b ∷ bytes) = is_numeral_first b ≡ true

decimal_begins : (integer fraction exponent : List ℕ) → list_all is_ascii_digit integer ≡ true → IsFraction fraction → 0 < length integer + length fraction → BeginsNumeral (integer ++ (fraction ++ exponent))
decimal_begins [] [] exponent is_integer is_fraction some = absurd (omega arith)
decimal_begins [] (b ∷ fraction) exponent is_integer is_fraction some = ap is_numeral_first is_fraction.0
decimal_begins (b ∷ integer) fraction exponent is_integer is_fraction some = or_left _ _ (and_parts (is_ascii_digit b) (list_all is_ascii_digit integer) is_integer).0

numeral_begins : (bytes : List ℕ) → IsNumeral bytes → BeginsNumeral bytes
numeral_begins bytes is =
    elim is [
      | inl hex ↦ subst BeginsNumeral (sym hex.parts) refl
      | inr dec ↦ subst BeginsNumeral (sym dec.parts) (decimal_begins dec.integer dec.fraction dec.exponent dec.is_integer dec.is_fraction dec.some)
    ]

-- a number that is all there is stays the number where a piece ends behind it
no_longer : (bytes rest : List ℕ) (n : ℕ) → IsNumeral (take n (bytes ++ rest)) → n ≤ length (bytes ++ rest) → Stops rest → n ≤ length bytes
no_longer bytes [] n is within stops = omega (arith, length-append bytes [])
no_longer bytes (b ∷ rest) n is within stops =
    elim (cases_lt (length bytes) n) [
      | inl longer ↦
          let more : n ≡ length bytes + suc (n - length bytes - 1) = omega arith in
          let front : take n (bytes ++ b ∷ rest) ≡ bytes ++ b ∷ take (n - length bytes - 1) rest = ap (λ k. take k (bytes ++ b ∷ rest)) more ∙ take-append-add bytes (b ∷ rest) (suc (n - length bytes - 1)) in
          let all : list_all is_numeral_byte bytes && (is_numeral_byte b && list_all is_numeral_byte (take (n - length bytes - 1) rest)) ≡ true = sym (list_all-append is_numeral_byte bytes (b ∷ take (n - length bytes - 1) rest)) ∙ sym (ap (list_all is_numeral_byte) front) ∙ numeral_bytes _ is in
          let numeral : is_numeral_byte b ≡ true = (and_parts _ _ (and_parts (list_all is_numeral_byte bytes) _ all).1).0 in
          let stop : is_numeral_byte b ≡ false = stops_at is_numeral_byte b rest stops refl refl refl refl in
          absurd (both_ways (is_numeral_byte b) stop numeral)
      | inr short ↦ short
    ]

number_stays : (bytes rest : List ℕ) → 0 < length bytes → number_length bytes ≡ length bytes → Stops rest → IsNumeral bytes × (number_length (bytes ++ rest) ≡ length bytes)
number_stays bytes rest some whole stops =
    let is : IsNumeral bytes = subst IsNumeral (ap (λ n. take n bytes) whole ∙ take-length bytes) (number_found bytes (omega arith)) in
    let least : length bytes ≤ number_length (bytes ++ rest) = longest_number (bytes ++ rest) bytes rest refl is in
    let most : number_length (bytes ++ rest) ≤ length bytes = no_longer bytes rest (number_length (bytes ++ rest)) (number_found (bytes ++ rest) (omega arith)) (number_length-le (bytes ++ rest)) stops in
    (is, omega arith)

-- a number
abbrev pub IsNumberText : List ℕ → Type 0
IsNumberText bytes = (0 < length bytes) × (number_length bytes ≡ length bytes)

number_rule : (bytes rest : List ℕ) → BeginsNumeral bytes → 0 < number_length (bytes ++ rest) → (is_white (get_or bytes 0 0) ≡ false) × (token_at (bytes ++ rest) ≡ (Number, number_length (bytes ++ rest)))
number_rule [] rest begins some = absurd begins
number_rule (b ∷ bytes) rest begins some =
    let there : not (nat_eq (number_length (b ∷ (bytes ++ rest))) 0) ≡ true = not_from_false _ (ne_eqb _ 0 (λ none. omega arith)) in (
      dark_by is_numeral_first b begins refl,
      ordinary_rule b (bytes ++ rest) (ordinary_by is_numeral_first b begins refl refl refl refl refl refl refl) ∙ cond-true _ _ _ there,
    )

pub number_piece : (part rest : List ℕ) → IsNumberText part → Stops rest → IsPiece Number part rest
number_piece part rest is stops =
    let stays = number_stays part rest is.0 is.1 stops in
    let rule = number_rule part rest (numeral_begins part stays.0) (omega (arith, stays.1, is.0)) in
    record { some = is.0; dark = rule.0; rule = rule.1 ∙ ap (λ (n : ℕ). (Number, n)) stays.1 }

pub number_first : (bytes : List ℕ) → IsNumberText bytes → BeginsNumeral bytes
number_first bytes is = numeral_begins bytes (number_stays bytes [] is.0 is.1 tt).0

-- `-` before a number
pub minus_piece : (bytes rest : List ℕ) → BeginsNumeral bytes → IsPiece Symbol (45 ∷ []) (bytes ++ rest)
unfolding token_at begins_line_comment begins_block begins_quoted begins_name
minus_piece [] rest begins = absurd begins
minus_piece (b ∷ bytes) rest begins =
    let all = 45 ∷ b ∷ (bytes ++ rest) in
    let single : has_byte all 1 45 ≡ false = and_right (nat_lt 1 (length all)) (nat_eq b 45) (other is_numeral_first b 45 begins refl) in
    record {
      some = omega arith;
      dark = refl;
      rule =
          cond-false (begins_line_comment all) _ _ (or_from _ _ (not_first 45 35 (b ∷ (bytes ++ rest)) refl) (and_left _ _ (and_right (has_byte all 0 45) (has_byte all 1 45) single)))
          ∙ cond-false (begins_block all) _ _ (and_left (has_byte all 0 47) (has_byte all 1 42) (not_first 45 47 (b ∷ (bytes ++ rest)) refl))
          ∙ cond-false (begins_quoted all) _ _ (or_from _ _ (not_first 45 39 (b ∷ (bytes ++ rest)) refl) (not_first 45 34 (b ∷ (bytes ++ rest)) refl))
          ∙ cond-false (begins_name all) _ _ (not_first 45 96 (b ∷ (bytes ++ rest)) refl)
          ∙ no_variable 45 (b ∷ (bytes ++ rest)) refl
          ∙ not_number 45 (b ∷ (bytes ++ rest)) refl refl
          ∙ not_word 45 (b ∷ (bytes ++ rest)) refl;
    }

-- a text in `'` without quotes and backslashes
plain_one : (b : ℕ) → is_plain_byte b ≡ true → IsPlain 39 b
plain_one b plain =
    let no_quote : b ≡ 39 → ⊥ = λ same. both_ways (is_plain_byte b) (ap is_plain_byte same) plain in
    let no_escape : nat_eq b 92 ≡ false = other is_plain_byte b 92 plain refl in
    (no_quote, and_left (nat_eq b 92) true no_escape)

plain_inside : (bytes : List ℕ) → list_all is_plain_byte bytes ≡ true → IsInside 39 bytes
plain_inside [] all = tt
plain_inside (b ∷ []) all = plain_one b (and_parts (is_plain_byte b) true all).0
plain_inside (b ∷ c ∷ bytes) all =
    let parts = and_parts (is_plain_byte b) (list_all is_plain_byte (c ∷ bytes)) all in
    inr (plain_one b parts.0, plain_inside (c ∷ bytes) parts.1)

no_quote : (rest : List ℕ) → Stops rest → has_byte rest 0 39 ≡ false
no_quote [] stops = refl
no_quote (b ∷ rest) stops = not_first b 39 rest (stops_at (λ n. nat_eq n 39) b rest stops refl refl refl refl)

abbrev pub in_quotes : List ℕ → List ℕ
in_quotes bytes = 39 ∷ (bytes ++ 39 ∷ [])

pub quoted_piece : (bytes rest : List ℕ) → list_all is_plain_byte bytes ≡ true → Stops rest → IsPiece Quoted (in_quotes bytes) rest
unfolding token_at begins_line_comment begins_block begins_quoted quoted_length
quoted_piece bytes rest all stops =
    let behind = (bytes ++ 39 ∷ []) ++ rest in
    let whole = 39 ∷ behind in
    let closes : to_closing 39 behind ≡ Some (suc (length bytes)) = ap (to_closing 39) (append_assoc bytes (39 ∷ []) rest) ∙ closes_closing 39 bytes rest (λ same. omega arith) (plain_inside bytes all) (no_quote rest stops) in
    let size : 1 + suc (length bytes) ≡ length (in_quotes bytes) = omega (arith, length-append bytes (39 ∷ [])) in
    record {
      some = omega arith;
      dark = refl;
      rule =
          cond-false (begins_line_comment whole) _ _ (or_from _ _ (not_first 39 35 behind refl) (and_left _ _ (and_left _ _ (not_first 39 45 behind refl))))
          ∙ cond-false (begins_block whole) _ _ (and_left _ _ (not_first 39 47 behind refl))
          ∙ cond-true (begins_quoted whole) _ _ (or_left _ _ (is_first 39 behind))
          ∙ ap (λ end. closed Quoted end whole) (ap (later 1) closes)
          ∙ ap (λ (n : ℕ). (Quoted, n)) size;
    }

-- a system variable: `@@`, and bytes of its name
pub variable_piece : (name rest : List ℕ) → list_all is_name_byte name ≡ true → 0 < length name → Stops rest → IsPiece SysVar (64 ∷ 64 ∷ name) rest
unfolding token_at begins_line_comment begins_block begins_quoted begins_name plain_token_at system_variable_length
variable_piece name rest all some stops =
    let behind = 64 ∷ (name ++ rest) in
    let whole = 64 ∷ behind in
    let run : prefix_len is_name_byte (name ++ rest) ≡ length name = run_stops is_name_byte name rest all refl refl refl refl stops in
    let marks = and_from (has_byte whole 0 64) (has_byte whole 1 64) (is_first 64 behind) (and_from (nat_lt 1 (length whole)) true (lt-ltb 1 (length whole) (omega arith)) refl) in
    let size : system_variable_length whole ≡ length (64 ∷ 64 ∷ name) =
    cond-true (has_byte whole 0 64 && has_byte whole 1 64) _ 0 marks
    ∙ ap (followed_by 2) run
    ∙ cond-false (nat_eq (length name) 0) 0 _ (ne_eqb (length name) 0 (λ none. omega arith))
    ∙ omega arith in
    record {
      some = omega arith;
      dark = refl;
      rule =
          cond-false (begins_line_comment whole) _ _ (or_from _ _ (not_first 64 35 behind refl) (and_left _ _ (and_left _ _ (not_first 64 45 behind refl))))
          ∙ cond-false (begins_block whole) _ _ (and_left _ _ (not_first 64 47 behind refl))
          ∙ cond-false (begins_quoted whole) _ _ (or_from _ _ (not_first 64 39 behind refl) (not_first 64 34 behind refl))
          ∙ cond-false (begins_name whole) _ _ (not_first 64 96 behind refl)
          ∙ cond-true (not (nat_eq (system_variable_length whole) 0)) _ _ (not_from_false _ (ne_eqb (system_variable_length whole) 0 (λ none. omega (arith, size, none))))
          ∙ ap (λ (n : ℕ). (SysVar, n)) size;
    }

-- a quoted text, by what stands inside
pub inside_quotes : (bytes : List ℕ) → inside (in_quotes bytes) ≡ bytes
inside_quotes bytes =
    let size : length (in_quotes bytes) - 1 - 1 ≡ length bytes = omega (arith, length-append bytes (39 ∷ [])) in
    ap (λ n. take n (bytes ++ 39 ∷ [])) size ∙ take-append_seam bytes (39 ∷ [])
