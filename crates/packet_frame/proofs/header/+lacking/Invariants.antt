use Rattle.std.proofs.Common.{length}
use Rattle.packet_frame.proofs.header.+lacking.Given as goal

abbrev pub decreases-lacking : goal.decreases-lacking
decreases-lacking l = length l.bytes.now
