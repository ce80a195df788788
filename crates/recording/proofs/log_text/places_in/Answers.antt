use Rattle.std.proofs.Common.{◌∙◌, ap}
use Rattle.recording.specs.Places.{entries_at}
use Rattle.recording.proofs.PlaceSteps.{noted}
use Rattle.recording.proofs.log_text.places_in.Goals as goal

pub loop-place-preserved : goal.loop-place-preserved
loop-place-preserved c = λ link. ap (entries_at c.args.log.now) (c.in_ok-note.ensures link) ∙ noted link c.args.log.now c.loop-place.place c.index-log-place.result _ c.loop-place-test.true c.index-log-place.is (c.loop-place.invariant link)
