-- A number that is written in decimal digits is read again.
use Rattle.std.specs.Prelude.{◌≡◌, ℕ, ◌+◌, ◌^◌, ◌<◌, ◌≤◌, [], ◌++◌, decimal, drop, length, take, Some}
use Rattle.std.proofs.Common.{refl, sym, ap, ◌∙◌, inr, arith, append-nil}
use Rattle.std.proofs.lemmas.Fmt.{decimal_nonempty, length-decimal-le}
use Rattle.std.proofs.lemmas.List.{drop_at, take_at}
use Rattle.mx_base.specs.Decimal.{number}
use Rattle.mx_base.specs.FieldLaws.{lenenc_at-again}
use Rattle.mx_base.specs.Fields.{lenenc}
use Rattle.sql_tokens.proofs.Lengths.{number_length-le}
use Rattle.sql_tokens.proofs.LongestNumbers.{longest_number}
use Rattle.sql_tokens.specs.Numbers.{number_length}
use Rattle.sql_tokens.specs.Numerals.{IsNumeral}
use Rattle.session_vars.proofs.Rules.{IsNumberText}
use Rattle.server_rule.proofs.Spelled.{decimal_digits, spelled_again}
use Rattle.server_rule.specs.Replies.{number_in_row, number_spelled, text_behind}
use Rattle.mem_rule.specs.Notes.{text_bytes}

pub number_again : (n : ℕ) → n < 2 ^ 64 → number (decimal n) ≡ Some n
unfolding number
number_again n small = spelled_again n small

pub number_text : (n : ℕ) → n < 2 ^ 64 → IsNumberText (decimal n)
number_text n small =
    let digits = decimal n in
    let some = decimal_nonempty n small in
    let numeral : IsNumeral digits = inr (record { integer = digits; fraction = []; exponent = []; parts = sym (append-nil digits); is_integer = decimal_digits n small; is_fraction = tt; is_exponent = tt; some = omega (arith, some) }) in
    let least : length digits ≤ number_length digits = longest_number digits digits [] (sym (append-nil digits)) numeral in
    (some, omega (arith, least, number_length-le digits))

pub row_again : (n : ℕ) → n < 2 ^ 64 → number_in_row (text_bytes (decimal n)) ≡ Some n
row_again n small =
    let digits = decimal n in
    let size = lenenc (length digits) in
    let there = lenenc_at-again (length digits) [] digits (omega (arith, length-decimal-le 20 n (omega arith) (omega arith) small)) in
    let text : take (length digits) (drop (0 + length size) (size ++ digits)) ≡ digits =
    ap (λ at. take (length digits) (drop at (size ++ digits))) (omega arith) ∙ ap (take (length digits)) (drop_at size digits (length size) refl) ∙ (ap (take (length digits)) (sym (append-nil digits)) ∙ take_at digits [] (length digits) refl) in
    ap (λ field. text_behind field (size ++ digits)) there ∙ ap number_spelled text ∙ spelled_again n small
