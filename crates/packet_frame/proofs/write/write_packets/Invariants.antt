use Rattle.std.proofs.Common.{length}
use Rattle.packet_frame.proofs.Spelt.{InSpelling}
use Rattle.packet_frame.proofs.write.write_packets.Given as goal

abbrev pub invariant-loop-rest : goal.invariant-loop-rest
invariant-loop-rest l = InSpelling l.fn.out.items l.out.items l.first l.payload l.id l.rest

abbrev pub decreases-loop-rest : goal.decreases-loop-rest
decreases-loop-rest l = length l.rest
