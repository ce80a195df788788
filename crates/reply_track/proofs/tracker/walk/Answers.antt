use Rattle.std.proofs.Common.{arith, refl, sym, ◌∙◌}
use Rattle.reply_track.proofs.Headed.{walk-headed}
use Rattle.reply_track.proofs.Walking.{walk-passed, walk-over}
use Rattle.reply_track.proofs.tracker.walk.Goals as goal

pub loop-at-preserved-then-count-gt0 : goal.loop-at-preserved-then-count-gt0
loop-at-preserved-then-count-gt0 c = walk-passed c.args.state.now c.args.piece.now c.loop-at.state c.behind.result c.loop-at.piece c.loop-at.at _ c.passed-count.result c.loop-at.invariant (omega arith) refl c.passed-count.ensures c.if-count-gt0.true c.behind.ensures

pub returns-in-Over : goal.returns-in-Over
returns-in-Over c = walk-over c.args.state.now c.args.piece.now c.loop-at.state c.loop-at.piece c.loop-at.at _ c.written-new.result c.in-Over.end c.loop-at.invariant c.loop-at-test.true refl c.written-new.ensures (sym c.step.ensures ∙ c.in-Over.is)

pub loop-at-preserved-in-Some : goal.loop-at-preserved-in-Some
loop-at-preserved-in-Some c =
    walk-headed c.args.state.now c.args.piece.now c.loop-at.state c.in-Some.next c.loop-at.piece c.loop-at.at _ _ _ _ c.loop-at.invariant
    (omega (arith, c.if-left-ge4.true)) refl refl refl refl (sym c.headed.ensures ∙ c.in-Some.is)
