use Rattle.std.proofs.Common.{◌≡◌, ◌++◌, drop}
use Rattle.packet_frame.specs.Packets.{spellings}
use Rattle.client_seat.proofs.answer.spelled.Given as goal

abbrev pub invariant-loop-payload : goal.invariant-loop-payload
invariant-loop-payload l = l.packets.items ++ spellings l.id (drop l.payload-index l.payloads) ≡ spellings l.fn.first l.fn.payloads
