use Rattle.ready_loop.proofs.Ending.{stood_now, on_err}
use Rattle.std.proofs.Common.{refl, ◌∙◌}
use Rattle.ready_loop.proofs.Steps.{keeps}
use Rattle.ready_loop.proofs.Counting.{retold}
use Rattle.ready_loop.proofs.Marking as marking
use Rattle.ready_loop.proofs.Watching as watching
use Rattle.ready_loop.proofs.serving.queue_changed.Goals as goal

pub loop-link-preserved : goal.loop-link-preserved
loop-link-preserved g c = record {
  serves = record {
    standing = keeps _ _ _ _ c.loop-link.invariant.serves.standing c.in-Some.ensures.keeps;
    tracks = retold c.loop-link.table _ _ refl (marking.all_same _ _ _ _ c.in_ok-enqueue.ensures.marks (marking.queued_same _ _)) c.loop-link.invariant.serves.tracks;
    watches = watching.renamed _ _ g.M.Machine.changed _ _ _ _ _ _ _ c.in-Some.ensures.same c.in-Some.ensures.named c.in_ok-enqueue.ensures.marks c.in_ok-enqueue.ensures.queue c.loop-link.invariant.serves.watches;
  };
  stopped = c.in-Some.ensures.same.stopped ∙ c.loop-link.invariant.stopped;
  acted = c.in-Some.ensures.asks ∙ c.loop-link.invariant.acted;
  round = c.loop-link.invariant.round;
  serves_by = c.in-Some.ensures.serves_by ∙ c.loop-link.invariant.serves_by;
}

pub returns-in_err-enqueue-clause-broke : goal.returns-in_err-enqueue-clause-broke
returns-in_err-enqueue-clause-broke g c = on_err _ _ (stood_now _ _ _ _ _ (keeps _ _ _ _ c.loop-link.invariant.serves.standing c.in-Some.ensures.keeps))
