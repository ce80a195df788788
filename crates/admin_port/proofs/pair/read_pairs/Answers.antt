use Rattle.admin_port.proofs.Reading.{pairs_on}
use Rattle.admin_port.proofs.pair.read_pairs.Goals as goal

pub loop-column-preserved : goal.loop-column-preserved
loop-column-preserved c =
    pairs_on _ _ _ _ _ _ _ _ _ _ _ _ _ _ _ _ c.loop-column.invariant c.in-Some.ensures c.in-Some-first_token.ensures c.in-Some-first_token-2.ensures
    c.in-Some-first_token-3.ensures c.in_ok-pair.ensures c.reads.ensures c.if-not-reads.false c.in_ok-push.ensures.ok
