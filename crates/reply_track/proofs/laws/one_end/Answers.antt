use Rattle.reply_track.proofs.Answering.{one-end}
use Rattle.reply_track.proofs.laws.one_end.Goals as goal

pub returns : goal.returns
returns c = one-end
