use Rattle.std.proofs.Common.{rules}
use Rattle.session_state.proofs.pin.diag_after.Goals as goal

pub returns-then-class-2 : goal.returns-then-class-2
returns-then-class-2 c = search rules
