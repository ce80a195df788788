use Rattle.std.proofs.Common.{◌∙◌, get_or, drop, sym, ap, arith}
use Rattle.sql_tokens.specs.Quotes.{to_closing}
use Rattle.sql_tokens.proofs.Ends.{later_fits, to_closing-within}
use Rattle.sql_tokens.proofs.quote.quoted_length.Goals as goal

pub overflow_add-result : goal.overflow_add-result
overflow_add-result c =
    let bytes = c.args.bytes.now in
    let rest = drop 1 bytes in
    let quote = get_or bytes 0 0 in
    let fits = later_fits bytes 1 c.in_ok-end.end (to_closing quote rest) (omega arith) c.behind.ensures.small (to_closing-within quote rest) (ap (to_closing quote) (sym c.behind.ensures.rest) ∙ sym c.to_closing.ensures ∙ c.in_ok-end.was) in
    omega arith
