use Rattle.std.proofs.Common.{◌∙◌, drop, sym, ap, arith}
use Rattle.sql_tokens.specs.Comments.{to_block_end}
use Rattle.sql_tokens.proofs.Ends.{later_fits, to_block_end-within}
use Rattle.sql_tokens.proofs.comment.block_length.Goals as goal

pub overflow_add-result : goal.overflow_add-result
overflow_add-result c =
    let bytes = c.args.bytes.now in
    let rest = drop 2 bytes in
    let fits = later_fits bytes 2 c.in_ok-end.end (to_block_end rest) (omega arith) c.behind.ensures.small (to_block_end-within rest) (ap to_block_end (sym c.behind.ensures.rest) ∙ sym c.to_block_end.ensures ∙ c.in_ok-end.was) in
    omega arith
