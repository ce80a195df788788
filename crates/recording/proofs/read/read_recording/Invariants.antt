use Rattle.std.proofs.Common.{◌≡◌, ◌≤◌, length}
use Rattle.recording.specs.Ended.{standing_of}
use Rattle.recording.specs.Recording.{recording_of}
use Rattle.recording.proofs.LineSteps.{leads, reading}
use Rattle.recording.proofs.read.read_recording.Given as goal

abbrev pub invariant-loop-rest : goal.invariant-loop-rest
invariant-loop-rest l = record {
  bounds : l.lines ≤ 1000000;
  size : length l.rest ≤ length l.bytes;
  said : leads (reading l.lines (length l.bytes) (standing_of l.progress) l.entries.items l.rest) l.rest ≡ recording_of l.bytes;
}

abbrev pub decreases-loop-rest : goal.decreases-loop-rest
decreases-loop-rest l = length l.rest
