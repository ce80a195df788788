use Rattle.std.proofs.Common.{arith}
use Rattle.sql_tokens.specs.Bytes.{is_name_byte}
use Rattle.sql_tokens.proofs.Lengths.{run_fits}
use Rattle.sql_tokens.proofs.variable.system_variable_length.Goals as goal

pub followed_by-requires : goal.followed_by-requires
followed_by-requires c = rw (c.name_run.ensures, c.behind.ensures.rest) (run_fits is_name_byte c.args.bytes.now 2 (omega arith) c.behind.ensures.small)
