use Rattle.std.proofs.Common.{◌∙◌, ap, sym}
use Rattle.mem_wire.specs.Lines.{is_at}
use Rattle.mem_wire.proofs.Growth.{no_moment-next}
use Rattle.mem_wire.proofs.lines.before_moment.Goals as goal

pub loop-i-preserved : goal.loop-i-preserved
loop-i-preserved c = no_moment-next c.args.lines.now c.loop-i.i c.index-lines-i.result c.loop-i-test.true c.loop-i.invariant
    (ap is_at (sym c.index-lines-i.is) ∙ sym c.is_moment.ensures ∙ c.if-is_moment.false)
