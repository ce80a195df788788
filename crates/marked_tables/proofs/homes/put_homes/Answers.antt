use Rattle.std.proofs.Common.{arith}
use Rattle.marked_tables.proofs.Rising.{gains_all, gains_at_next, gains_first}
use Rattle.marked_tables.proofs.homes.put_homes.Goals as goal

pub loop-session-init : goal.loop-session-init
loop-session-init c = gains_first c.args.sessions.now c.args.links.now.items c.requires

pub loop-session-preserved : goal.loop-session-preserved
loop-session-preserved c =
    gains_at_next _ c.args.sessions.now c.loop-session.session-index _ _ _ (omega (arith, c.loop-session-test.true)) c.loop-session.invariant
    c.in_ok-put_home.ensures

pub returns : goal.returns
returns c =
    gains_all c.args.sessions.now c.loop-session.session-index _ _ (omega (arith, c.loop-session-test.false)) c.loop-session.invariant
