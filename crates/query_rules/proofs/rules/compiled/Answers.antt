use Rattle.std.proofs.Common.{length, ap, arith}
use Rattle.std.proofs.lemmas.List.Elements.{All-push}
use Rattle.query_rules.specs.Building.{IsCompiled}
use Rattle.query_rules.proofs.RowsLeft.{rows_more, stand_more, first_more}
use Rattle.query_rules.proofs.rules.compiled.Goals as goal

pub loop-row-preserved : goal.loop-row-preserved
loop-row-preserved c =
    let at = c.loop-row in
    let next = c.in-Some.ensures.steps.0 in
    let made = c.in_ok-compile_behind.ensures in
    rw c.in_ok-push.ensures.ok record {
      rows = rows_more _ _ _ _ _ _ at.invariant.rows next made.row;
      patterns = All-push IsCompiled _ _ at.invariant.patterns made.patterns;
      stand = stand_more _ _ _ _ _ at.invariant.stand next made.stands;
      first = first_more _ _ _ _ _ at.invariant.first next made.stands;
      size = let was = at.invariant.size in let gone = c.in-Some.ensures.steps.1 in let short = ap length next in omega arith;
    }
