use Rattle.std.proofs.Common.{◌≡◌, drop}
use Rattle.sql_tokens.specs.Bytes.{later}
use Rattle.sql_tokens.specs.Comments.{to_block_end}
use Rattle.sql_tokens.proofs.comment.to_block_end.Given as goal

-- what is found from here on is what is found from the front on
abbrev pub invariant-loop-i : goal.invariant-loop-i
invariant-loop-i l = later l.i (to_block_end (drop l.i l.bytes)) ≡ to_block_end l.bytes
