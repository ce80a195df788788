use Rattle.std.proofs.Common.{refl}
use Rattle.core_tables.specs.Tables.{tables_of}
use Rattle.core_texts.proofs.Keeping.{itself_more}
use Rattle.shared_core.proofs.ClientRows.{left_again}
use Rattle.shared_core.proofs.router.Router.leaves_again.Goals as goal
use Rattle.shared_core.specs.Stands.{tables}

pub returns-then-has_lives-clause-leaves : goal.returns-then-has_lives-clause-leaves
returns-then-has_lives-clause-leaves c = λ link numbered.
    left_again link c.args.client (tables c.args.self.now) (tables_of c.leave.new.self.tables) numbered c.requires
    (c.has_lives.ensures c.if-has_lives.true c.requires.row c.requires.there) c.leave.ensures.is

pub returns-then-has_lives-clause-keeps : goal.returns-then-has_lives-clause-keeps
returns-then-has_lives-clause-keeps c =
    record { goes = c.leave.ensures.goes; roomy = refl; came = refl; asked = refl; client = refl; link = refl; texts = itself_more _; work = refl }
