use Rattle.hostgroups.proofs.Building.{refused, builds_on}
use Rattle.hostgroups.proofs.servers.numbered.Goals as goal

pub returns-in-Some-clause-fault : goal.returns-in-Some-clause-fault
returns-in-Some-clause-fault c = λ _. refused _ _ _ _ _ _ c.loop-row.invariant c.loop-row-test.true c.in-Some.ensures

pub loop-row-preserved : goal.loop-row-preserved
loop-row-preserved c =
    rw (c.in_ok-add-in-None.ensures, c.from-connections.ensures)
    (builds_on _ _ _ _ _ c.loop-row.invariant c.loop-row-test.true c.in-None.ensures)
