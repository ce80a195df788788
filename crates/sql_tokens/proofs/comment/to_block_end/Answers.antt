use Rattle.std.proofs.Common.{◌<◌, ◌≡◌, ◌∙◌, true, false, length, drop, length-drop, sym, ap, arith}
use Rattle.sql_tokens.specs.Comments.{closes_block, to_block_end}
use Rattle.sql_tokens.proofs.Ends.{stops_at, passes, at_block_end, past_inside}
use Rattle.sql_tokens.proofs.comment.to_block_end.Goals as goal

pub returns-then-closes_block : goal.returns-then-closes_block
returns-then-closes_block c =
    let rest = drop c.loop-i.i c.args.bytes.now in
    let some : 0 < length rest = omega (arith, length-drop c.loop-i.i c.args.bytes.now) in
    let here : closes_block rest ≡ true = ap closes_block (sym c.behind.ensures.rest) ∙ sym c.closes_block.ensures ∙ c.if-closes_block.true in
    stops_at to_block_end c.args.bytes.now c.loop-i.i 2 c.loop-i.invariant (at_block_end rest some here)

pub loop-i-preserved : goal.loop-i-preserved
loop-i-preserved c =
    let rest = drop c.loop-i.i c.args.bytes.now in
    let some : 0 < length rest = omega (arith, length-drop c.loop-i.i c.args.bytes.now) in
    let inside : closes_block rest ≡ false = ap closes_block (sym c.behind.ensures.rest) ∙ sym c.closes_block.ensures ∙ c.if-closes_block.false in
    passes to_block_end c.args.bytes.now c.loop-i.i 1 c.loop-i.invariant (past_inside rest some inside)
