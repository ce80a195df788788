use Rattle.std.proofs.Common.{◌≡◌, length}
use Rattle.packet_frame.specs.Packets.{Split}
use Rattle.packet_frame.specs.Pieces.{IsTaken}
use Rattle.packet_frame.proofs.pieces.take_messages.Given as goal

abbrev pub invariant-loop-payloads : goal.invariant-loop-payloads
invariant-loop-payloads l = record {
  same : l.framer.limit ≡ l.initial.framer.limit;
  part : (all : Split) → IsTaken l.first all l.initial.payloads.items l.initial.framer → IsTaken l.first all l.payloads.items l.framer;
}

abbrev pub decreases-loop-payloads : goal.decreases-loop-payloads
decreases-loop-payloads l = length l.framer.kept
