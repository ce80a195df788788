use Rattle.std.proofs.Common.{refl, arith}
use Rattle.sql_tokens.specs.declared.bytes.TheConstants.{WORD_BYTES}
use Rattle.sql_tokens.proofs.WordBytes.{looked_up}
use Rattle.sql_tokens.proofs.bytes.is_word_byte.Goals as goal

pub returns : goal.returns
returns c = looked_up WORD_BYTES refl c.args.byte (omega (arith, c.ranges.byte))
