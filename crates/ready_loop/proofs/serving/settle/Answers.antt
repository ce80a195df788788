use Rattle.ready_loop.proofs.Counting.{retold}
use Rattle.ready_loop.proofs.Opening.{drained, looked_through}
use Rattle.std.proofs.Common.{rules}
use Rattle.ready_loop.proofs.Offering.{proceeds-then}
use Rattle.ready_loop.proofs.serving.settle.Goals as goal

pub make_call-requires-clause-going : goal.make_call-requires-clause-going
make_call-requires-clause-going g c = looked_through _ _ _ _ _ _ _ _ _ _ c.owed.ensures.round c.owed.ensures.dry c.owed.ensures.watches c.in_ok-follow.ensures.going

pub returns-in_default-clause-going : goal.returns-in_default-clause-going
returns-in_default-clause-going g c = looked_through _ _ _ _ _ _ _ _ _ _ c.owed.ensures.round c.owed.ensures.dry c.owed.ensures.watches c.in_ok-follow.ensures.going

pub returns-in_default-clause-drained : goal.returns-in_default-clause-drained
returns-in_default-clause-drained g c = drained _ _ _ _ _ (retold c.follow.new.table _ _ c.owed.ensures.round c.owed.ensures.dry c.in_ok-follow.ensures.going.serves.tracks) (rw c.in_default.is at c.owed.ensures.done) c.in_ok-follow.ensures.calm

pub loop-table-preserved : goal.loop-table-preserved
loop-table-preserved g c = record {
  serves = search rules;
  wakes = search rules;
  proceeds = proceeds-then _ _ _ _ _ _ _ _ _ _ _ _ _ c.loop-table.invariant.proceeds (proceeds-then _ _ _ _ _ _ _ _ _ _ _ _ _ c.in_ok-follow.ensures.proceeds c.in_ok-make_call.ensures.made.proceeds);
}

pub returns-in_default-clause-proceeds : goal.returns-in_default-clause-proceeds
returns-in_default-clause-proceeds g c = proceeds-then _ _ _ _ _ _ _ _ _ _ _ _ _ c.loop-table.invariant.proceeds c.in_ok-follow.ensures.proceeds
