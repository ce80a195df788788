use Rattle.std.proofs.Common.{Bool, Ok, ap}
use Rattle.admin_port.proofs.Patterned.{some_at}
use Rattle.admin_port.proofs.patterns.are_in.Goals as goal

pub returns-then-not-is : goal.returns-then-not-is
returns-then-not-is c =
    c.loop-pair.invariant.some
    (some_at c.args.pairs.now c.loop-pair.pair-index c.pair-item.result c.loop-pair-test.true c.pair-item.is
    (c.in_ok-is.ensures.no (ap (λ (b : Bool). Ok b) c.if-not-is.true)))
