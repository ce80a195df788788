use Rattle.core_tables.specs.Tables.{tables_of}
use Rattle.shared_core.proofs.Notes.{in_work-so}
use Rattle.shared_core.proofs.rows.ordinal_of.Goals as goal

pub returns-in-Some : goal.returns-in-Some
returns-in-Some c = in_work-so c.args.client (tables_of c.args.tables.now) _ c.in-Some.ensures
