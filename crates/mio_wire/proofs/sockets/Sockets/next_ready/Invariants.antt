use Rattle.std.proofs.Common.{length}
use Rattle.mio_wire.proofs.sockets.Sockets.next_ready.Given as goal

abbrev pub decreases-loop-link : goal.decreases-loop-link
decreases-loop-link l = length l.self.ready.items
