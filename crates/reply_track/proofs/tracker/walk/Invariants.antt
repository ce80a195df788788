use Rattle.std.proofs.Common.{length, ◌-◌}
use Rattle.reply_track.proofs.Walking.{InWalk}
use Rattle.reply_track.proofs.tracker.walk.Given as goal

abbrev pub invariant-loop-at : goal.invariant-loop-at
invariant-loop-at l = InWalk l.fn.state l.fn.piece l.state l.piece l.at

abbrev pub decreases-loop-at : goal.decreases-loop-at
decreases-loop-at l = length l.initial.piece - l.at
