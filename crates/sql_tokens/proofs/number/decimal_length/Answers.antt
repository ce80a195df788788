use Rattle.std.proofs.Common.{◌≤◌, ◌+◌, length, drop, length-drop, arith}
use Rattle.std.specs.Char.{is_ascii_digit}
use Rattle.std.proofs.lemmas.List.Sums.{prefix_len-le-length}
use Rattle.sql_tokens.proofs.Lengths.{fraction_length-le, exponent_length-le}
use Rattle.sql_tokens.proofs.number.decimal_length.Goals as goal

pub overflow_add-mantissa : goal.overflow_add-mantissa
overflow_add-mantissa c =
    let digits : c.digit_run-digits.result ≤ length c.args.bytes.now = rw c.digit_run-digits.ensures (prefix_len-le-length is_ascii_digit c.args.bytes.now) in
    let fraction : c.fraction_length.result ≤ length (drop c.digit_run-digits.result c.args.bytes.now) = rw (c.fraction_length.ensures, c.behind.ensures.rest) (fraction_length-le (drop c.digit_run-digits.result c.args.bytes.now)) in
    omega (arith, length-drop c.digit_run-digits.result c.args.bytes.now)

pub overflow_add-result : goal.overflow_add-result
overflow_add-result c =
    let bytes = c.args.bytes.now in
    let mantissa = c.digit_run-digits.result + c.fraction_length.result in
    let exponent : c.exponent_length.result ≤ length (drop mantissa bytes) = rw (c.exponent_length.ensures, c.behind-else-mantissa-eq0.ensures.rest) (exponent_length-le (drop mantissa bytes)) in
    let digits : c.digit_run-digits.result ≤ length bytes = rw c.digit_run-digits.ensures (prefix_len-le-length is_ascii_digit bytes) in
    let fraction : c.fraction_length.result ≤ length (drop c.digit_run-digits.result bytes) = rw (c.fraction_length.ensures, c.behind.ensures.rest) (fraction_length-le (drop c.digit_run-digits.result bytes)) in
    omega (arith, length-drop mantissa bytes, length-drop c.digit_run-digits.result bytes)
