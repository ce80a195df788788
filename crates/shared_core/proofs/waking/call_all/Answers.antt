use Rattle.shared_core.proofs.waking.call_all.Goals as goal

pub loop-number-init : goal.loop-number-init
loop-number-init c = λ client has. has

pub loop-number-preserved : goal.loop-number-preserved
loop-number-preserved c = λ client has. c.add.ensures.kept client (c.loop-number.invariant client has)

pub returns : goal.returns
returns c = c.loop-number.invariant
