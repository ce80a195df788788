use Rattle.std.proofs.Common.{rules}
use Rattle.session_state.proofs.insert_id.insert_id_after.Goals as goal

pub returns-else-class : goal.returns-else-class
returns-else-class c = search rules
