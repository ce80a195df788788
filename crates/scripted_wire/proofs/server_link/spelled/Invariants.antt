use Rattle.std.proofs.Common.{[], take}
use Rattle.reply_text.proofs.Written.{Written}
use Rattle.scripted_wire.proofs.server_link.spelled.Given as goal

abbrev pub invariant-loop-payload : goal.invariant-loop-payload
invariant-loop-payload l = Written l.first [] l.packets.items (take l.payload-index l.payloads) l.id
