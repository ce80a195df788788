use Rattle.std.proofs.Common.{◌∙◌, sym}
use Rattle.core_tables.specs.Tables.{tables_of}
use Rattle.shared_core.proofs.Tested.{broken-so}
use Rattle.shared_core.proofs.rows.is_broken.Goals as goal

pub returns-in-Some : goal.returns-in-Some
returns-in-Some c = λ is. broken-so c.args.client (tables_of c.args.tables.now) c.in-Some.link c.in-Some.ensures (sym c.is_unsound.ensures ∙ is)
