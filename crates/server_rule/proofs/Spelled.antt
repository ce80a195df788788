-- A number that is written in decimal digits is read again.
use Rattle.std.specs.Prelude.{◌≡◌, ℕ, zero, suc, ◌^◌, ◌<◌, ◌≤◌, true, false, not, nat_le, nat_lt, fold, List, [], ◌∷◌, decimal, length, Some}
use Rattle.std.proofs.Common.{refl, ap, ◌∙◌, arith, get_or}
use Rattle.std.proofs.lemmas.Bool.{and_from, and_parts, cond-true, leb-true, le-leb, lt-ltb, ne_eqb}
use Rattle.std.proofs.lemmas.Fmt.{decimal_digit, decimal_nonempty, digits_decimal, digits_value-decimal, first_decimal}
use Rattle.std.proofs.lemmas.Str.Parse.{FoldsDigits, IsDigitsTest, IsNumeralModel, numerals_by_fold}
use Rattle.std.specs.List.{list_all}
use Rattle.mx_base.specs.Decimal.{in_64_bits, is_decimal, is_digit, leads_with_zero, with_digit}
use Rattle.server_rule.specs.Replies.{number_spelled}

tells : IsDigitsTest (λ digits. list_all is_digit digits ≡ true)
tells = record {
  empty = refl;
  parts = λ b bytes all. let both = and_parts (is_digit b) (list_all is_digit bytes) all in let ends = and_parts (nat_le 48 b) (nat_le b 57) both.0 in ((leb-true 48 b ends.0, leb-true b 57 ends.1), both.1);
  more = λ b bytes is all. and_from (is_digit b) (list_all is_digit bytes) (and_from (nat_le 48 b) (nat_le b 57) (le-leb 48 b is.0) (le-leb b 57 is.1)) all;
}

folds : FoldsDigits (λ n digits. fold with_digit n digits)
folds = record { empty = λ n. refl; more = λ n b bytes is. refl }

model : IsNumeralModel (λ digits. list_all is_digit digits ≡ true) (λ digits. fold with_digit 0 digits)
model = numerals_by_fold (λ digits. list_all is_digit digits ≡ true) tells (λ n digits. fold with_digit n digits) folds

no_lead : (digits : List ℕ) → 48 < get_or digits 0 0 → leads_with_zero digits ≡ false
no_lead [] some = refl
no_lead (b ∷ []) some = refl
no_lead (b ∷ c ∷ digits) some = ne_eqb b 48 (λ is. omega arith)

decimal_leads : (n : ℕ) → n < 2 ^ 64 → leads_with_zero (decimal n) ≡ false
decimal_leads zero small = ap leads_with_zero (decimal_digit 0 (omega arith))
decimal_leads (suc n) small = no_lead (decimal (suc n)) (first_decimal (suc n) (omega arith) small)

is_decimal_by : (digits : List ℕ) → 0 < length digits → list_all is_digit digits ≡ true → leads_with_zero digits ≡ false → is_decimal digits ≡ true
is_decimal_by [] some all leads = absurd (omega arith)
is_decimal_by (b ∷ digits) some all leads = and_from (list_all is_digit (b ∷ digits)) (not (leads_with_zero (b ∷ digits))) all (ap not leads)

pub decimal_digits : (n : ℕ) → n < 2 ^ 64 → list_all is_digit (decimal n) ≡ true
decimal_digits n small = digits_decimal model n small

pub spelled_again : (n : ℕ) → n < 2 ^ 64 → number_spelled (decimal n) ≡ Some n
spelled_again n small =
    cond-true (is_decimal (decimal n)) _ _ (is_decimal_by (decimal n) (decimal_nonempty n small) (decimal_digits n small) (decimal_leads n small))
    ∙ ap in_64_bits (digits_value-decimal model n small)
    ∙ cond-true (nat_lt n (2 ^ 64)) _ _ (lt-ltb n (2 ^ 64) small)
