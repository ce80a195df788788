use Rattle.std.proofs.Common.{length}
use Rattle.session_vars.proofs.modes.+joined_at.Given as goal

abbrev pub decreases-joined_at : goal.decreases-joined_at
decreases-joined_at l = length l.tokens.now
