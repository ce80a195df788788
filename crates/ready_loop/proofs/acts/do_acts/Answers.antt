use Rattle.std.proofs.Common.{rules}
use Rattle.ready_loop.proofs.Offering.{proceeds-then}
use Rattle.ready_loop.proofs.acts.do_acts.Goals as goal

pub loop-table-preserved : goal.loop-table-preserved
loop-table-preserved g c = record {
  serves = search rules;
  more = search rules;
  wakes = search rules;
  proceeds = proceeds-then _ _ _ _ _ _ _ _ _ _ _ _ _ c.loop-table.invariant.proceeds c.in_ok-act_once.ensures.proceeds;
}

pub returns-then-not-branch-clause-proceeds : goal.returns-then-not-branch-clause-proceeds
returns-then-not-branch-clause-proceeds g c = proceeds-then _ _ _ _ _ _ _ _ _ _ _ _ _ c.loop-table.invariant.proceeds c.in_ok-act_once.ensures.proceeds
