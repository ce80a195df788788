use Rattle.std.proofs.Common.{◌∙◌}
use Rattle.recording.proofs.RunSteps.{turn_wrote, turn_idle}
use Rattle.recording.proofs.link_text.put_runs.Goals as goal
use Rattle.recording.proofs.link_text.put_runs.Goals.{in-Some+in_ok-put_piece, in_default}

pub loop-place-preserved : goal.loop-place-preserved
loop-place-preserved c =
    elim c.match-written.branch [
      | in-Some+in_ok-put_piece w ↦ turn_wrote _ _ _ _ _ _ _ _ _ _ _ c.loop-place-test.true w.in-Some.ensures (w.out-is ∙ w.in_ok-put_piece.ensures) w.last-is c.loop-place.invariant
      | in_default w ↦ turn_idle _ _ _ _ _ _ _ _ _ c.loop-place-test.true w.in_default.ensures w.out-is w.last-is c.loop-place.invariant
    ]
