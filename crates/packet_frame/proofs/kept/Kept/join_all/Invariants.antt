use Rattle.std.proofs.Common.{◌≡◌, length}
use Rattle.packet_frame.specs.Joining.{as_read, IsJoined}
use Rattle.packet_frame.proofs.kept.Kept.join_all.Given as goal

abbrev pub invariant-loop-message : goal.invariant-loop-message
invariant-loop-message l = record {
  joined : IsJoined l.limit l.self;
  same : as_read l.self ≡ as_read l.initial.self;
  first : l.self.first ≡ l.initial.self.first;
}

abbrev pub decreases-loop-message : goal.decreases-loop-message
decreases-loop-message l = length l.self.rest
