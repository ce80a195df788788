use Rattle.core_tables.specs.Tables.{tables_of}
use Rattle.shared_core.proofs.Tested.{unsent-so}
use Rattle.shared_core.proofs.rows.is_unsent.Goals as goal

pub returns-in-Some : goal.returns-in-Some
returns-in-Some c = λ is. unsent-so c.args.client (tables_of c.args.tables.now) _ c.in-Some.ensures is
