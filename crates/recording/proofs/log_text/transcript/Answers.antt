use Rattle.std.proofs.Common.{refl, ap, ◌∙◌, arith}
use Rattle.recording.specs.Places.{entries_at}
use Rattle.recording.specs.Transcript.{transcript_of}
use Rattle.recording.proofs.PlaceSteps.{clients_counted, servers_counted, turn_came, turn_idle}
use Rattle.recording.proofs.log_text.transcript.Goals as goal
use Rattle.recording.proofs.log_text.transcript.Goals.{in-Some+in_ok-put_link, in_default}

pub loop-entry-init : goal.loop-entry-init
unfolding transcript_of
loop-entry-init c = record { clients = omega arith; servers = omega arith; text = rw c.new-text.ensures refl }

pub loop-entry-preserved : goal.loop-entry-preserved
loop-entry-preserved c = record {
  clients = rw c.next.ensures.counted (let most = clients_counted c.loop-entry.arrivals c.entry-item.result in omega arith);
  servers = rw c.next.ensures.counted (let most = servers_counted c.loop-entry.arrivals c.entry-item.result in omega arith);
  text = elim c.match-next.branch [
    | in-Some+in_ok-put_link w ↦ turn_came c.args.log.now c.loop-entry.entry-index c.entry-item.result c.loop-entry.arrivals _ _ _ w.in-Some.peer w.in-Some.link _ _ c.loop-entry-test.true c.entry-item.is w.in-Some.ensures.peer c.next.ensures.counted (ap (entries_at c.args.log.now) w.of.ensures ∙ c.in_ok-places.ensures w.in-Some.link) (w.text-is ∙ w.in_ok-put_link.ensures) c.loop-entry.invariant.text
    | in_default w ↦ turn_idle c.args.log.now c.loop-entry.entry-index c.entry-item.result c.loop-entry.arrivals _ _ _ _ c.loop-entry-test.true c.entry-item.is w.in_default.ensures.peer c.next.ensures.counted w.text-is c.loop-entry.invariant.text
  ];
}
