use Rattle.reply_track.proofs.Answering.{answers}
use Rattle.reply_track.proofs.tracker.Tracker.take.Goals as goal

pub returns-clause-means : goal.returns-clause-means
returns-clause-means c = λ sought bytes made took. answers sought bytes made c.args.piece.now c.walk.new.piece c.args.self.now.state c.walk.new.state c.walk.result c.walk.ensures.are took c.walk.ensures
