use Rattle.reply_relay.proofs.Messages.{answer-read}
use Rattle.reply_relay.proofs.laws.cells_are_read.Goals as goal

pub returns : goal.returns
returns c = answer-read
