-- A number is the longest front that is one.
use Rattle.std.proofs.Common.{◌≡◌, ◌⊎◌, ◌≤◌, ◌<◌, ℕ, suc, ◌+◌, Bool, true, false, ◌&&◌, ◌||◌, nat_eq, nat_lt, List, [], ◌∷◌, ◌++◌, length, take, drop, refl, sym, subst, ◌∙◌, ap, inl, inr, arith, append_assoc, length-append, eq-eqb}
use Rattle.std.specs.Char.{is_ascii_digit, is_ascii_hexdigit}
use Rattle.std.specs.List.{prefix_len, list_all}
use Rattle.std.proofs.lemmas.Bool.{cond-true, cond-false, cond_both, cases_Bool, cases_eq, both_ways, and_parts, and_from, and_right, or_cases, or_left, or_right, or_from, eqb-true, eqb-false, ne_eqb, lt-ltb}
use Rattle.std.proofs.lemmas.List.{drop_at, length-take-le}
use Rattle.std.proofs.lemmas.List.Folds.{length-prefix_len}
use Rattle.std.proofs.Math.Seq.{take-add}
use Rattle.sql_tokens.specs.Bytes.{has_byte, followed_by}
use Rattle.sql_tokens.specs.Numbers.{digits_length, hexadecimal_length, fraction_length, sign_length, exponent_length, decimal_length, number_length}
use Rattle.sql_tokens.specs.Numerals.{AreSome, IsFraction, AreSigned, IsExponent, IsDecimal, IsNumeral}
use Rattle.sql_tokens.proofs.Lengths.{fraction_length-le}
use Rattle.sql_tokens.proofs.Runs.{run_covers, run_ends, all_in_run}

-- the first byte
front_is : (b c : ℕ) (bytes : List ℕ) → b ≡ c → has_byte (b ∷ bytes) 0 c ≡ true
front_is b c bytes is = and_from (nat_lt 0 (length (b ∷ bytes))) (nat_eq b c) (lt-ltb 0 (length (b ∷ bytes)) (omega arith)) (eq-eqb b c is)

front_isn't : (b c : ℕ) (bytes : List ℕ) → (b ≡ c → ⊥) → has_byte (b ∷ bytes) 0 c ≡ false
front_isn't b c bytes isn't = and_right (nat_lt 0 (length (b ∷ bytes))) (nat_eq b c) (ne_eqb b c isn't)

-- a part whose run isn't empty is there
followed : (front run least : ℕ) → 0 < least → least ≤ run → front + least ≤ followed_by front run
followed front run least some h = let ne : nat_eq run 0 ≡ false = ne_eqb run 0 (λ is. omega arith) in let is : followed_by front run ≡ front + run = cond-false (nat_eq run 0) 0 (front + run) ne in omega arith

followed_exactly : (front run : ℕ) → 0 < run → followed_by front run ≡ front + run
followed_exactly front run some = cond-false (nat_eq run 0) 0 (front + run) (ne_eqb run 0 (λ is. omega arith))

-- a fraction that is there is found, and whole where no digit follows
fraction_covers : (fraction rest : List ℕ) → IsFraction fraction → length fraction ≤ fraction_length (fraction ++ rest)
unfolding fraction_length
fraction_covers [] rest is = omega arith
fraction_covers (b ∷ digits) rest is =
    let there : fraction_length (b ∷ (digits ++ rest)) ≡ followed_by 1 (digits_length (digits ++ rest)) = cond-true (has_byte (b ∷ (digits ++ rest)) 0 46) (followed_by 1 (digits_length (digits ++ rest))) 0 (front_is b 46 (digits ++ rest) is.0) in
    let long = followed 1 (digits_length (digits ++ rest)) (length digits) is.1.0 (run_covers is_ascii_digit digits rest is.1.1) in
    omega arith

-- before a byte that is no digit and no point the fraction is just that
fraction_ends : (fraction : List ℕ) (b : ℕ) (rest : List ℕ) → IsFraction fraction → is_ascii_digit b ≡ false → (b ≡ 46 → ⊥) → fraction_length (fraction ++ b ∷ rest) ≡ length fraction
unfolding fraction_length
fraction_ends [] b rest is stop no_point = cond-false (has_byte (b ∷ rest) 0 46) (followed_by 1 (digits_length rest)) 0 (front_isn't b 46 rest no_point)
fraction_ends (c ∷ digits) b rest is stop no_point =
    let run : digits_length (digits ++ b ∷ rest) ≡ length digits = run_ends is_ascii_digit digits b rest is.1.1 stop in
    cond-true (has_byte (c ∷ (digits ++ b ∷ rest)) 0 46) (followed_by 1 (digits_length (digits ++ b ∷ rest))) 0 (front_is c 46 (digits ++ b ∷ rest) is.0)
    ∙ ap (followed_by 1) run ∙ followed_exactly 1 (length digits) is.1.0 ∙ omega arith

-- a digit is none of these
no_digit : (b : ℕ) → ((b ≡ 43) ⊎ (b ≡ 45)) ⊎ ((b ≡ 46) ⊎ ((b ≡ 101) ⊎ (b ≡ 69))) → is_ascii_digit b ≡ false
no_digit b (inl (inl h)) = ap is_ascii_digit h
no_digit b (inl (inr h)) = ap is_ascii_digit h
no_digit b (inr (inl h)) = ap is_ascii_digit h
no_digit b (inr (inr (inl h))) = ap is_ascii_digit h
no_digit b (inr (inr (inr h))) = ap is_ascii_digit h

-- an exponent, by how many bytes its sign takes
exponent_at : (b sign : ℕ) (rest : List ℕ) → (b ≡ 101) ⊎ (b ≡ 69) → sign_length rest ≡ sign → exponent_length (b ∷ rest) ≡ followed_by (1 + sign) (digits_length (drop (1 + sign) (b ∷ rest)))
unfolding exponent_length
exponent_at b sign rest letter is_sign =
    let test : has_byte (b ∷ rest) 0 101 || has_byte (b ∷ rest) 0 69 ≡ true = elim letter [
      | inl small ↦ or_left (has_byte (b ∷ rest) 0 101) (has_byte (b ∷ rest) 0 69) (front_is b 101 rest small)
      | inr large ↦ or_right (has_byte (b ∷ rest) 0 101) (has_byte (b ∷ rest) 0 69) (front_is b 69 rest large)
    ] in
    cond-true _ _ _ test ∙ ap (λ s. followed_by (1 + s) (digits_length (drop (1 + s) (b ∷ rest)))) is_sign

sign_there : (b : ℕ) (rest : List ℕ) → (b ≡ 43) ⊎ (b ≡ 45) → sign_length (b ∷ rest) ≡ 1
unfolding sign_length
sign_there b rest sign =
    cond-true _ _ _ (elim sign as (λ _. has_byte (b ∷ rest) 0 43 || has_byte (b ∷ rest) 0 45 ≡ true) [
      | inl plus ↦ or_left (has_byte (b ∷ rest) 0 43) (has_byte (b ∷ rest) 0 45) (front_is b 43 rest plus)
      | inr minus ↦ or_right (has_byte (b ∷ rest) 0 43) (has_byte (b ∷ rest) 0 45) (front_is b 45 rest minus)
    ])

sign_missing : (b : ℕ) (rest : List ℕ) → is_ascii_digit b ≡ true → sign_length (b ∷ rest) ≡ 0
unfolding sign_length
sign_missing b rest digit =
    cond-false _ _ _ (or_from (has_byte (b ∷ rest) 0 43) (has_byte (b ∷ rest) 0 45)
    (front_isn't b 43 rest (λ is. both_ways (is_ascii_digit b) (no_digit b (inl (inl is))) digit))
    (front_isn't b 45 rest (λ is. both_ways (is_ascii_digit b) (no_digit b (inl (inr is))) digit)))

exponent_covers : (exponent rest : List ℕ) → IsExponent exponent → length exponent ≤ exponent_length (exponent ++ rest)
exponent_covers [] rest is = omega arith
exponent_covers (b ∷ []) rest is = absurd is.1
exponent_covers (b ∷ c ∷ digits) rest is =
    elim is.1 [
      | inl signed ↦
          let at = exponent_at b 1 (c ∷ (digits ++ rest)) is.0 (sign_there c (digits ++ rest) signed.0) in
          let long = followed 2 (digits_length (digits ++ rest)) (length digits) signed.1.0 (run_covers is_ascii_digit digits rest signed.1.1) in
          omega (arith, at)
      | inr bare ↦
          let at = exponent_at b 0 (c ∷ (digits ++ rest)) is.0 (sign_missing c (digits ++ rest) (and_parts (is_ascii_digit c) (list_all is_ascii_digit digits) bare.1).0) in
          let long = followed 1 (digits_length (c ∷ (digits ++ rest))) (length (c ∷ digits)) bare.0 (run_covers is_ascii_digit (c ∷ digits) rest bare.1) in
          omega (arith, at)
    ]

-- digits end before a fraction, or before what is no digit
digits_stop : (integer fraction : List ℕ) (b : ℕ) (rest : List ℕ) → list_all is_ascii_digit integer ≡ true → IsFraction fraction → is_ascii_digit b ≡ false → digits_length (integer ++ (fraction ++ b ∷ rest)) ≡ length integer
digits_stop integer [] b rest all is stop = run_ends is_ascii_digit integer b rest all stop
digits_stop integer (c ∷ digits) b rest all is stop = run_ends is_ascii_digit integer c (digits ++ b ∷ rest) all (no_digit c (inr (inl is.0)))

-- digits and a fraction
abbrev mantissa : List ℕ → ℕ
mantissa bytes = digits_length bytes + fraction_length (drop (digits_length bytes) bytes)

decimal_at_least : (bytes : List ℕ) → 0 < mantissa bytes → mantissa bytes + exponent_length (drop (mantissa bytes) bytes) ≡ decimal_length bytes
unfolding decimal_length
decimal_at_least bytes some = sym (cond-false (nat_eq (mantissa bytes) 0) 0 (mantissa bytes + exponent_length (drop (mantissa bytes) bytes)) (ne_eqb (mantissa bytes) 0 (λ is. omega arith)))

-- the mantissa before an exponent, and at the end
mantissa_stops : (integer fraction : List ℕ) (b : ℕ) (rest : List ℕ) → list_all is_ascii_digit integer ≡ true → IsFraction fraction → (b ≡ 101) ⊎ (b ≡ 69) → mantissa (integer ++ (fraction ++ b ∷ rest)) ≡ length integer + length fraction
mantissa_stops integer fraction b rest all is letter =
    let stop : is_ascii_digit b ≡ false = no_digit b (inr (inr letter)) in
    let digits = digits_stop integer fraction b rest all is stop in
    let no_point : b ≡ 46 → ⊥ = λ point. elim letter [ inl small ↦ omega arith | inr large ↦ omega arith ] in
    ap (λ n. n + fraction_length (drop n (integer ++ (fraction ++ b ∷ rest)))) digits
    ∙ ap (λ (xs : List ℕ). length integer + fraction_length xs) (drop_at integer (fraction ++ b ∷ rest) (length integer) refl)
    ∙ ap (λ n. length integer + n) (fraction_ends fraction b rest is stop no_point)

mantissa_covers : (integer fraction rest : List ℕ) → list_all is_ascii_digit integer ≡ true → IsFraction fraction → length integer + length fraction ≤ mantissa (integer ++ (fraction ++ rest))
mantissa_covers integer [] rest all is = omega (arith, run_covers is_ascii_digit integer rest all)
mantissa_covers integer (c ∷ digits) rest all is =
    let run : digits_length (integer ++ (c ∷ (digits ++ rest))) ≡ length integer = run_ends is_ascii_digit integer c (digits ++ rest) all (no_digit c (inr (inl is.0))) in
    let same : mantissa (integer ++ (c ∷ (digits ++ rest))) ≡ length integer + fraction_length (c ∷ (digits ++ rest)) =
    ap (λ n. n + fraction_length (drop n (integer ++ (c ∷ (digits ++ rest))))) run ∙ ap (λ (xs : List ℕ). length integer + fraction_length xs) (drop_at integer (c ∷ (digits ++ rest)) (length integer) refl) in
    omega (arith, fraction_covers (c ∷ digits) rest is)

decimal_covers : (integer fraction exponent rest : List ℕ) → list_all is_ascii_digit integer ≡ true → IsFraction fraction → IsExponent exponent → 0 < length integer + length fraction → length integer + length fraction + length exponent ≤ decimal_length (integer ++ (fraction ++ (exponent ++ rest)))
decimal_covers integer fraction [] rest all is_fraction is_exponent some =
    let bytes = integer ++ (fraction ++ rest) in
    let covers = mantissa_covers integer fraction rest all is_fraction in
    let least = decimal_at_least bytes (omega arith) in
    omega arith
decimal_covers integer fraction (b ∷ exponent) rest all is_fraction is_exponent some =
    let behind = b ∷ (exponent ++ rest) in
    let bytes = integer ++ (fraction ++ behind) in
    let stops : mantissa bytes ≡ length integer + length fraction = mantissa_stops integer fraction b (exponent ++ rest) all is_fraction is_exponent.0 in
    let dropped : drop (mantissa bytes) bytes ≡ behind = ap (drop (mantissa bytes)) (sym (append_assoc integer fraction behind)) ∙ drop_at (integer ++ fraction) behind (mantissa bytes) (length-append integer fraction ∙ sym stops) in
    let least = decimal_at_least bytes (omega arith) in
    let covers = exponent_covers (b ∷ exponent) rest is_exponent in
    omega (arith, ap exponent_length dropped)

-- what begins with neither `e` nor `E` has no exponent in front
without_letter : (b : ℕ) (rest : List ℕ) → (b ≡ 101 → ⊥) → (b ≡ 69 → ⊥) → exponent_length (b ∷ rest) ≡ 0
unfolding exponent_length
without_letter b rest no_small no_large = cond-false _ _ _ (or_from (has_byte (b ∷ rest) 0 101) (has_byte (b ∷ rest) 0 69) (front_isn't b 101 rest no_small) (front_isn't b 69 rest no_large))

-- what has a hexadecimal number in front begins with `0x`
hexadecimal_shape : (bytes : List ℕ) → 0 < hexadecimal_length bytes → (digits : List ℕ) × (bytes ≡ 48 ∷ 120 ∷ digits)
unfolding hexadecimal_length
hexadecimal_shape [] some = absurd (omega arith)
hexadecimal_shape (a ∷ []) some =
    let none : hexadecimal_length (a ∷ []) ≡ 0 = cond-false _ _ _ (and_right (has_byte (a ∷ []) 0 48) (has_byte (a ∷ []) 1 120) refl) in
    absurd (omega arith)
hexadecimal_shape (a ∷ b ∷ digits) some =
    let bytes = a ∷ b ∷ digits in
    elim (cases_Bool (has_byte bytes 0 48 && has_byte bytes 1 120)) [
      | inl e ↦
          let both = and_parts (has_byte bytes 0 48) (has_byte bytes 1 120) e in
          let zero_is : a ≡ 48 = eqb-true a 48 (and_parts (nat_lt 0 (length bytes)) (nat_eq a 48) both.0).1 in
          let x_is : b ≡ 120 = eqb-true b 120 (and_parts (nat_lt 1 (length bytes)) (nat_eq b 120) both.1).1 in
          (digits, ap (λ (n : ℕ). n ∷ b ∷ digits) zero_is ∙ ap (λ (n : ℕ). 48 ∷ n ∷ digits) x_is)
      | inr e ↦ let none : hexadecimal_length bytes ≡ 0 = cond-false (has_byte bytes 0 48 && has_byte bytes 1 120) _ _ e in absurd (omega arith)
    ]

-- what begins with `0x` has the decimal number `0` in front
decimal_before_x : (a b : ℕ) (rest : List ℕ) → a ≡ 48 → b ≡ 120 → decimal_length (a ∷ b ∷ rest) ≡ 1
decimal_before_x a b rest zero_is x_is =
    let bytes = a ∷ b ∷ rest in
    let no_x : is_ascii_digit b ≡ false = ap is_ascii_digit x_is in
    let one : digits_length bytes ≡ 1 = cond-true (is_ascii_digit a) (1 + digits_length (b ∷ rest)) 0 (ap is_ascii_digit zero_is) ∙ ap (λ n. 1 + n) (cond-false (is_ascii_digit b) (1 + digits_length rest) 0 no_x) in
    let no_fraction : fraction_length (b ∷ rest) ≡ 0 = fraction_ends [] b rest tt no_x (λ point. omega arith) in
    let is : mantissa bytes ≡ 1 = ap (λ n. n + fraction_length (drop n bytes)) one ∙ ap (λ n. 1 + n) no_fraction in
    sym (decimal_at_least bytes (omega arith)) ∙ ap (λ n. n + exponent_length (drop n bytes)) is ∙ ap (λ n. 1 + n) (no_exponent b rest x_is)
  where
    no_exponent : (b : ℕ) (rest : List ℕ) → b ≡ 120 → exponent_length (b ∷ rest) ≡ 0
    no_exponent b rest is = without_letter b rest (λ small. omega arith) (λ large. omega arith)

hexadecimal_is : (digits : List ℕ) → hexadecimal_length (48 ∷ 120 ∷ digits) ≡ followed_by 2 (prefix_len is_ascii_hexdigit digits)
unfolding hexadecimal_length
hexadecimal_is digits = cond-true _ _ _ (and_from (has_byte (48 ∷ 120 ∷ digits) 0 48) (has_byte (48 ∷ 120 ∷ digits) 1 120) (front_is 48 48 (120 ∷ digits) refl) (and_from (nat_lt 1 (length (48 ∷ 120 ∷ digits))) true (lt-ltb 1 (length (48 ∷ 120 ∷ digits)) (omega arith)) refl))

-- no number is shorter than the decimal one
decimal-le-number : (bytes : List ℕ) → decimal_length bytes ≤ number_length bytes
unfolding number_length
decimal-le-number bytes =
    cond_both (nat_eq (hexadecimal_length bytes) 0) (decimal_length bytes) (hexadecimal_length bytes) (λ n. decimal_length bytes ≤ n)
    (λ _. omega arith)
    (λ e. let some : 0 < hexadecimal_length bytes = let ne = eqb-false (hexadecimal_length bytes) 0 e in omega arith in
    let is = hexadecimal_shape bytes some in
    let one : decimal_length bytes ≡ 1 = ap decimal_length is.1 ∙ decimal_before_x 48 120 is.0 refl refl in
    omega arith)

-- a number in front is no longer
pub longest_number : (bytes front rest : List ℕ) → bytes ≡ front ++ rest → IsNumeral front → length front ≤ number_length bytes
unfolding number_length
longest_number bytes front rest parts is =
    elim is [
      | inl hex ↦
          let begins : bytes ≡ 48 ∷ 120 ∷ (hex.digits ++ rest) = parts ∙ ap (λ (xs : List ℕ). xs ++ rest) hex.parts in
          let size : hexadecimal_length bytes ≡ followed_by 2 (prefix_len is_ascii_hexdigit (hex.digits ++ rest)) = ap hexadecimal_length begins ∙ hexadecimal_is (hex.digits ++ rest) in
          let long = followed 2 (prefix_len is_ascii_hexdigit (hex.digits ++ rest)) (length hex.digits) hex.some.0 (run_covers is_ascii_hexdigit hex.digits rest hex.some.1) in
          let chosen : number_length bytes ≡ hexadecimal_length bytes = cond-false (nat_eq (hexadecimal_length bytes) 0) (decimal_length bytes) (hexadecimal_length bytes) (ne_eqb (hexadecimal_length bytes) 0 (λ none. omega arith)) in
          omega (arith, ap (length {A = ℕ}) hex.parts)
      | inr dec ↦
          let regrouped : front ++ rest ≡ dec.integer ++ (dec.fraction ++ (dec.exponent ++ rest)) = ap (λ (xs : List ℕ). xs ++ rest) dec.parts ∙ append_assoc dec.integer (dec.fraction ++ dec.exponent) rest ∙ ap (λ (xs : List ℕ). dec.integer ++ xs) (append_assoc dec.fraction dec.exponent rest) in
          let covers = decimal_covers dec.integer dec.fraction dec.exponent rest dec.is_integer dec.is_fraction dec.is_exponent dec.some in
          let same : decimal_length bytes ≡ decimal_length (dec.integer ++ (dec.fraction ++ (dec.exponent ++ rest))) = ap decimal_length (parts ∙ regrouped) in
          let size : length front ≡ length dec.integer + (length dec.fraction + length dec.exponent) = ap length dec.parts ∙ length-append dec.integer (dec.fraction ++ dec.exponent) ∙ ap (λ n. length dec.integer + n) (length-append dec.fraction dec.exponent) in
          omega (arith, decimal-le-number bytes)
    ]

-- a run that isn't empty
some_of_run : (p : ℕ → Bool) (xs : List ℕ) → 0 < prefix_len p xs → AreSome p (take (prefix_len p xs) xs)
some_of_run p xs some = (omega (arith, length-prefix_len p xs), all_in_run p xs (prefix_len p xs) (omega arith))

no_run : (front run : ℕ) → run ≡ 0 → followed_by front run ≡ 0
no_run front run is = cond-true (nat_eq run 0) 0 (front + run) (eq-eqb run 0 is)

-- the parts that are found are such
fraction_found : (bytes : List ℕ) → IsFraction (take (fraction_length bytes) bytes)
unfolding fraction_length
fraction_found [] = tt
fraction_found (b ∷ rest) =
    let run = digits_length rest in
    let found = λ (n : ℕ). IsFraction (take n (b ∷ rest)) in
    elim (cases_Bool (has_byte (b ∷ rest) 0 46)) [
      | inl e ↦
          let there : fraction_length (b ∷ rest) ≡ followed_by 1 run = cond-true (has_byte (b ∷ rest) 0 46) (followed_by 1 run) 0 e in
          let point : b ≡ 46 = eqb-true b 46 (and_parts (nat_lt 0 (length (b ∷ rest))) (nat_eq b 46) e).1 in
          elim (cases_eq run 0) [
            | inl none ↦ subst found (sym (there ∙ no_run 1 run none)) tt
            | inr some ↦
                let more : 0 < run = omega arith in
                let size : fraction_length (b ∷ rest) ≡ suc run = there ∙ followed_exactly 1 run more ∙ omega arith in
                subst found (sym size) (point, some_of_run is_ascii_digit rest more)
          ]
      | inr e ↦ subst found (sym (cond-false (has_byte (b ∷ rest) 0 46) (followed_by 1 run) 0 e)) tt
    ]

signed_some : (bytes : List ℕ) → AreSome is_ascii_digit bytes → AreSigned bytes
signed_some [] some = absurd (omega arith)
signed_some (b ∷ bytes) some = inr some

-- behind its letter
exponent_behind : (b : ℕ) (rest : List ℕ) → (b ≡ 101) ⊎ (b ≡ 69) → IsExponent (take (exponent_length (b ∷ rest)) (b ∷ rest))
unfolding sign_length
exponent_behind b [] letter = subst (λ (n : ℕ). IsExponent (take n (b ∷ []))) (sym (exponent_at b 0 [] letter refl)) tt
exponent_behind b (c ∷ more) letter =
    let found = λ (n : ℕ). IsExponent (take n (b ∷ c ∷ more)) in
    let plus = has_byte (c ∷ more) 0 43 in
    let minus = has_byte (c ∷ more) 0 45 in
    elim (cases_Bool (plus || minus)) [
      | inl e ↦
          let sign : (c ≡ 43) ⊎ (c ≡ 45) = elim (or_cases plus minus e) [ inl p ↦ inl (eqb-true c 43 (and_parts (nat_lt 0 (length (c ∷ more))) (nat_eq c 43) p).1) | inr m ↦ inr (eqb-true c 45 (and_parts (nat_lt 0 (length (c ∷ more))) (nat_eq c 45) m).1) ] in
          let at : exponent_length (b ∷ c ∷ more) ≡ followed_by 2 (digits_length more) = exponent_at b 1 (c ∷ more) letter (cond-true (plus || minus) 1 0 e) in
          elim (cases_eq (digits_length more) 0) [
            | inl none ↦ subst found (sym (at ∙ no_run 2 (digits_length more) none)) tt
            | inr some ↦
                let run : 0 < digits_length more = omega arith in
                let size : exponent_length (b ∷ c ∷ more) ≡ suc (suc (digits_length more)) = at ∙ followed_exactly 2 (digits_length more) run ∙ omega arith in
                subst found (sym size) (letter, inl (sign, some_of_run is_ascii_digit more run))
          ]
      | inr e ↦
          let digits = digits_length (c ∷ more) in
          let at : exponent_length (b ∷ c ∷ more) ≡ followed_by 1 digits = exponent_at b 0 (c ∷ more) letter (cond-false (plus || minus) 1 0 e) in
          elim (cases_eq digits 0) [
            | inl none ↦ subst found (sym (at ∙ no_run 1 digits none)) tt
            | inr some ↦
                let run : 0 < digits = omega arith in
                let size : exponent_length (b ∷ c ∷ more) ≡ suc digits = at ∙ followed_exactly 1 digits run ∙ omega arith in
                subst found (sym size) (letter, signed_some (take digits (c ∷ more)) (some_of_run is_ascii_digit (c ∷ more) run))
          ]
    ]

exponent_found : (bytes : List ℕ) → IsExponent (take (exponent_length bytes) bytes)
unfolding exponent_length
exponent_found [] = tt
exponent_found (b ∷ rest) =
    let small = has_byte (b ∷ rest) 0 101 in
    let large = has_byte (b ∷ rest) 0 69 in
    elim (cases_Bool (small || large)) [
      | inl e ↦ exponent_behind b rest (elim (or_cases small large e) [ inl s ↦ inl (eqb-true b 101 (and_parts (nat_lt 0 (length (b ∷ rest))) (nat_eq b 101) s).1) | inr l ↦ inr (eqb-true b 69 (and_parts (nat_lt 0 (length (b ∷ rest))) (nat_eq b 69) l).1) ])
      | inr e ↦ subst (λ (n : ℕ). IsExponent (take n (b ∷ rest))) (sym (cond-false (small || large) _ 0 e)) tt
    ]

decimal_found : (bytes : List ℕ) → 0 < decimal_length bytes → IsDecimal (take (decimal_length bytes) bytes)
unfolding decimal_length
decimal_found bytes some =
    let digits = digits_length bytes in
    let fraction = fraction_length (drop digits bytes) in
    let whole = mantissa bytes in
    let exponent = exponent_length (drop whole bytes) in
    elim (cases_eq whole 0) [
      | inl none ↦ let nothing : decimal_length bytes ≡ 0 = cond-true (nat_eq whole 0) 0 (whole + exponent) (eq-eqb whole 0 none) in absurd (omega arith)
      | inr there ↦
          let size : decimal_length bytes ≡ (digits + fraction) + exponent = sym (decimal_at_least bytes (omega arith)) in
          let integer_size : length (take digits bytes) ≡ digits = length-prefix_len is_ascii_digit bytes in
          let fraction_size : length (take fraction (drop digits bytes)) ≡ fraction = length-take-le fraction (drop digits bytes) (fraction_length-le (drop digits bytes)) in
          record {
            integer = take digits bytes;
            fraction = take fraction (drop digits bytes);
            exponent = take exponent (drop whole bytes);
            parts = ap (λ n. take n bytes) size ∙ take-add whole exponent bytes ∙ ap (λ (xs : List ℕ). xs ++ take exponent (drop whole bytes)) (take-add digits fraction bytes) ∙ append_assoc (take digits bytes) (take fraction (drop digits bytes)) (take exponent (drop whole bytes));
            is_integer = all_in_run is_ascii_digit bytes digits (omega arith);
            is_fraction = fraction_found (drop digits bytes);
            is_exponent = exponent_found (drop whole bytes);
            some = omega arith;
          }
    ]

pub number_found : (bytes : List ℕ) → 0 < number_length bytes → IsNumeral (take (number_length bytes) bytes)
unfolding number_length
number_found bytes some =
    let found = λ (n : ℕ). IsNumeral (take n bytes) in
    elim (cases_eq (hexadecimal_length bytes) 0) [
      | inl none ↦
          let chosen : number_length bytes ≡ decimal_length bytes = cond-true (nat_eq (hexadecimal_length bytes) 0) (decimal_length bytes) (hexadecimal_length bytes) (eq-eqb (hexadecimal_length bytes) 0 none) in
          subst found (sym chosen) (inr (decimal_found bytes (omega arith)))
      | inr there ↦
          let chosen : number_length bytes ≡ hexadecimal_length bytes = cond-false (nat_eq (hexadecimal_length bytes) 0) (decimal_length bytes) (hexadecimal_length bytes) (ne_eqb (hexadecimal_length bytes) 0 there) in
          let shape = hexadecimal_shape bytes (omega arith) in
          let run = prefix_len is_ascii_hexdigit shape.0 in
          let size : hexadecimal_length bytes ≡ followed_by 2 run = ap hexadecimal_length shape.1 ∙ hexadecimal_is shape.0 in
          let more : 0 < run = some_run (hexadecimal_length bytes) 2 run size there in
          let all : number_length bytes ≡ suc (suc run) = chosen ∙ size ∙ followed_exactly 2 run more ∙ omega arith in
          let taken : take (number_length bytes) bytes ≡ 48 ∷ 120 ∷ take run shape.0 = ap (λ n. take n bytes) all ∙ ap (take (suc (suc run))) shape.1 in
          inl (record { digits = take run shape.0; parts = taken; some = some_of_run is_ascii_hexdigit shape.0 more })
    ]
  where
    some_run : (size front run : ℕ) → size ≡ followed_by front run → (size ≡ 0 → ⊥) → 0 < run
    some_run size front run is there = elim (cases_eq run 0) [ inl none ↦ absurd (there (is ∙ no_run front run none)) | inr some ↦ omega arith ]
