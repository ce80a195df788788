use Rattle.reply_relay.proofs.Pieces.{begins}
use Rattle.reply_relay.proofs.laws.replies_begin.Goals as goal

pub returns : goal.returns
returns c = begins
