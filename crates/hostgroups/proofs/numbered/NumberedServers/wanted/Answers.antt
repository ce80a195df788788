use Rattle.hostgroups.proofs.Reloading.{load_refused, loads_on, so_far}
use Rattle.hostgroups.proofs.numbered.NumberedServers.wanted.Goals as goal

pub reload_fault-requires-clause-given : goal.reload_fault-requires-clause-given
reload_fault-requires-clause-given c =
    rw (so_far c.args.rows.now c.loop-row.row-index c.loop-row.wanted c.loop-row.invariant.stand) c.loop-row.invariant.numbers

pub returns-in-Some-clause-fault : goal.returns-in-Some-clause-fault
returns-in-Some-clause-fault c = λ _. load_refused _ _ _ _ _ _ _ _ c.loop-row.invariant c.loop-row-test.true c.in-Some.ensures

pub loop-row-preserved : goal.loop-row-preserved
loop-row-preserved c =
    rw (c.in_ok-add-in-None.ensures, c.from-connections.ensures, c.given_with-given.ensures)
    (loads_on _ _ _ _ _ _ _ c.loop-row.invariant c.loop-row-test.true c.in-None.ensures)
