use Rattle.std.proofs.Common.{sym, ◌∙◌, subst}
use Rattle.ready_loop.specs.Serving.{IsAsked}
use Rattle.ready_loop.proofs.Marking as marking
use Rattle.ready_loop.proofs.Watching as watching
use Rattle.ready_loop.proofs.table.Table.owed_in_queue.Goals as goal

pub loop-link-preserved : goal.loop-link-preserved
loop-link-preserved g c = record {
  watches = watching.left _ _ _ _ _ _ _ c.leave.ensures.marks c.in-Some.ensures.some c.leave.ensures.queue c.in_default-owed_on.ensures.settled c.loop-link.invariant.watches;
  dry = λ link. marking.all_same _ _ _ _ c.leave.ensures.marks (marking.queued_same _ _) link ∙ c.loop-link.invariant.dry link;
  round = c.loop-link.invariant.round;
}

pub returns-clause-done : goal.returns-clause-done
returns-clause-done g c = record {
  asked = subst IsAsked (sym c.loop-link.invariant.round) c.requires.asked;
  settled = watching.emptied _ _ _ _ c.loop-link.invariant.watches (rw c.in_default.is at c.front.ensures.none);
}

pub owed_on-requires-clause-asked : goal.owed_on-requires-clause-asked
owed_on-requires-clause-asked g c = subst IsAsked (sym c.loop-link.invariant.round) c.requires.asked
