use Rattle.core_tables.proofs.Keeping.{kept_more, none_kept}
use Rattle.core_tables.proofs.parting.part.Goals as goal

pub loop-session-init : goal.loop-session-init
loop-session-init c = λ at. none_kept _

pub loop-session-preserved : goal.loop-session-preserved
loop-session-preserved c = λ at. kept_more at _ _ _ _ _ _ c.loop-session-test.true (c.loop-session.invariant at) (c.part_one.ensures at)
