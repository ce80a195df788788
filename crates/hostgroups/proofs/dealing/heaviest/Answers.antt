use Rattle.hostgroups.proofs.Deals.{heaviest_more}
use Rattle.hostgroups.proofs.dealing.heaviest.Goals as goal

pub loop-row-preserved : goal.loop-row-preserved
loop-row-preserved c = rw (c.max-heaviest.ensures, c.weight.ensures) (heaviest_more _ _ _ _ _ c.loop-row-test.true c.loop-row.invariant)
