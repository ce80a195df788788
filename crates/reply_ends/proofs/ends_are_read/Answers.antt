use Rattle.reply_ends.proofs.Reading.{ends_read}
use Rattle.reply_ends.proofs.ends_are_read.Goals as goal

pub returns : goal.returns
returns c = ends_read
