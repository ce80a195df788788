use Rattle.reply_relay.proofs.Pieces.{as-one}
use Rattle.reply_relay.proofs.laws.pieces_are_read_as_one.Goals as goal

pub returns : goal.returns
returns c = λ sought read passed piece relay client number at. as-one sought read passed piece relay at client number
