use Rattle.std.proofs.Common.{length, ◌+◌}
use Rattle.packet_frame.proofs.answer_id.+id_behind_headers.Given as goal

abbrev pub decreases-id_behind_headers : goal.decreases-id_behind_headers
decreases-id_behind_headers l = length l.kept.now + length l.unfed.now
