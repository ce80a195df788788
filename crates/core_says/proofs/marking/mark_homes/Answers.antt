use Rattle.std.proofs.Common.{arith}
use Rattle.core_says.proofs.Links.{marked_all, marked_at_next}
use Rattle.core_says.proofs.marking.mark_homes.Goals as goal

pub loop-session-preserved : goal.loop-session-preserved
loop-session-preserved c =
    marked_at_next _ c.args.sessions.now c.loop-session.session-index _ _ _ (omega (arith, c.loop-session-test.true)) c.loop-session.invariant
    c.mark_at.ensures

pub returns : goal.returns
returns c =
    marked_all c.args.sessions.now c.loop-session.session-index _ _ (omega (arith, c.loop-session-test.false)) c.loop-session.invariant
