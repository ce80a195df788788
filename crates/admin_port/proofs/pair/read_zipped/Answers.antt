use Rattle.admin_port.proofs.Reading.{zipped_on}
use Rattle.admin_port.proofs.pair.read_zipped.Goals as goal

pub loop-column-preserved : goal.loop-column-preserved
loop-column-preserved c =
    zipped_on _ _ _ _ _ _ _ _ _ _ _ _ _ _ _ _ _ c.loop-column.invariant c.in-Some.ensures c.in-Some-first_token.ensures c.in-Some-Some.ensures
    c.in-Some-Some.ensures' c.in_ok-pair.ensures c.reads.ensures c.if-not-reads.false c.reads-else-not-reads.ensures c.if-not-reads-2.false
    c.in_ok-push.ensures.ok
