use Rattle.std.proofs.Common.{take}
use Rattle.packet_frame.specs.Pieces.{joined, AllTaken}
use Rattle.packet_frame.proofs.pieces.payloads_of.Given as goal

abbrev pub invariant-loop-piece : goal.invariant-loop-piece
invariant-loop-piece l = AllTaken l.limit l.first (joined (take l.piece-index l.pieces)) l.payloads.items l.fault l.framer
