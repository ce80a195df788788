use Rattle.std.proofs.Common.{sym}
use Rattle.core_tables.specs.Tables.{tables_of}
use Rattle.shared_core.proofs.Givings.{unsent-so}
use Rattle.shared_core.proofs.rows.is_unserved.Goals as goal

pub returns-in-None : goal.returns-in-None
returns-in-None c = λ is. unsent-so c.args.client (tables_of c.args.tables.now) (c.is_unsent.ensures is) (sym c.in-None.ensures)
