use Rattle.std.proofs.Common.{◌≡◌, ◌++◌, drop}
use Rattle.std.specs.List.{flat_map}
use Rattle.recording.specs.Places.{entries_at}
use Rattle.recording.specs.Transcript.{runs, run_line}
use Rattle.recording.proofs.RunSteps.{rest_lines}
use Rattle.recording.proofs.link_text.put_runs.Given as goal

abbrev pub invariant-loop-place : goal.invariant-loop-place
invariant-loop-place l = l.out ++ rest_lines l.peer l.last (entries_at l.log (drop l.place-index l.places)) ≡ l.initial.out ++ flat_map (run_line l.peer) (runs (entries_at l.log l.places))
