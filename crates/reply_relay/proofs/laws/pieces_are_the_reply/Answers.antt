use Rattle.reply_relay.proofs.Pieces.{pieces}
use Rattle.reply_relay.proofs.laws.pieces_are_the_reply.Goals as goal

pub returns : goal.returns
returns c = λ sought read passed piece relay are at. pieces sought read passed piece relay at are
