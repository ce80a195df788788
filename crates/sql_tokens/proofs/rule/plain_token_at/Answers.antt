use Rattle.std.proofs.Common.{◌≤◌, length, drop, length-drop, arith}
use Rattle.sql_tokens.proofs.Lengths.{variable_name_length-le}
use Rattle.sql_tokens.proofs.rule.plain_token_at.Goals as goal

pub overflow_add-result : goal.overflow_add-result
overflow_add-result c =
    let rest = drop 1 c.args.bytes.now in
    let name : c.variable_name_length.result ≤ length rest = rw (c.variable_name_length.ensures, c.behind.ensures.rest) (variable_name_length-le rest) in
    omega (arith, length-drop 1 c.args.bytes.now)
