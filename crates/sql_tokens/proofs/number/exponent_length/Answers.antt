use Rattle.std.proofs.Common.{◌≤◌, ◌+◌, arith}
use Rattle.std.specs.Char.{is_ascii_digit}
use Rattle.sql_tokens.proofs.Lengths.{run_fits, sign_length-le}
use Rattle.sql_tokens.proofs.number.exponent_length.Goals as goal

pub overflow_add-front : goal.overflow_add-front
overflow_add-front c = let sign : c.sign_length-front.result ≤ 1 = rw c.sign_length-front.ensures (sign_length-le c.behind.result.now) in omega arith

pub followed_by-requires : goal.followed_by-requires
followed_by-requires c =
    let sign : c.sign_length-front.result ≤ 1 = rw c.sign_length-front.ensures (sign_length-le c.behind.result.now) in
    rw (c.digit_run.ensures, c.behind-then-has_byte-2.ensures.rest) (run_fits is_ascii_digit c.args.bytes.now (1 + c.sign_length-front.result) (omega arith) c.behind.ensures.small)
