use Rattle.std.proofs.Common.{arith}
use Rattle.std.specs.Char.{is_ascii_digit}
use Rattle.sql_tokens.proofs.Lengths.{run_fits}
use Rattle.sql_tokens.proofs.number.fraction_length.Goals as goal

pub followed_by-requires : goal.followed_by-requires
followed_by-requires c = rw (c.digit_run.ensures, c.behind.ensures.rest) (run_fits is_ascii_digit c.args.bytes.now 1 (omega arith) c.behind.ensures.small)
