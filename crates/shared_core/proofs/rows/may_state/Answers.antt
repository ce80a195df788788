use Rattle.std.proofs.Common.{◌∙◌, sym}
use Rattle.core_tables.specs.Tables.{tables_of}
use Rattle.shared_core.proofs.Tested.{stated-so}
use Rattle.shared_core.proofs.rows.may_state.Goals as goal

pub returns-in-Some : goal.returns-in-Some
returns-in-Some c = λ is link begins. stated-so c.args.name (tables_of c.args.tables.now) _ c.in-Some.ensures (sym c.is_stated.ensures ∙ is) link begins
