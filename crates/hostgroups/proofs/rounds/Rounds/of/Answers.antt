use Rattle.std.proofs.Common.{sym, ◌∙◌}
use Rattle.hostgroups.proofs.Filling.{filled_all, filled_last, filled_more}
use Rattle.hostgroups.proofs.rounds.Rounds.of.Goals as goal
use Rattle.hostgroups.proofs.rounds.Rounds.of.Goals.{then-not-has+in_ok-turns+in_ok-add, else-not-has}

pub loop-row-preserved : goal.loop-row-preserved
loop-row-preserved c =
    elim c.if-not-has.branch [
      | then-not-has+in_ok-turns+in_ok-add w ↦
          rw (w.rounds-is, w.in_ok-add.ensures)
          (filled_last _ _ _ _ w.new.result c.loop-row-test.true c.loop-row.invariant w.new.ensures.hostgroup
          (rw (w.new.ensures.hostgroup, w.new.ensures.turns) w.in_ok-turns.ensures))
      | else-not-has w ↦
          rw w.rounds-is (filled_more _ _ _ _ c.loop-row-test.true c.loop-row.invariant (sym c.has.ensures ∙ w.if-not-has.false))
    ]

pub returns : goal.returns
returns c = filled_all _ _ _ c.loop-row-test.false c.loop-row.invariant
