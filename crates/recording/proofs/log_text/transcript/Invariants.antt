use Rattle.std.proofs.Common.{◌≡◌, ◌≤◌, ◌++◌, drop}
use Rattle.recording.specs.Transcript.{lines_of, transcript_of}
use Rattle.recording.proofs.log_text.transcript.Given as goal

abbrev pub invariant-loop-entry : goal.invariant-loop-entry
invariant-loop-entry l = record {
  clients : l.arrivals.clients ≤ l.entry-index;
  servers : l.arrivals.servers ≤ l.entry-index;
  text : l.text ++ lines_of l.log l.arrivals.clients l.arrivals.servers (drop l.entry-index l.log) ≡ transcript_of l.log;
}
