use Rattle.std.proofs.Common.{refl}
use Rattle.core_tables.specs.Parting.{freed_in}
use Rattle.core_texts.proofs.Keeping.{itself_more}
use Rattle.shared_core.specs.Stands.{tables}
use Rattle.shared_core.proofs.Keeping.{keeps_then, same_chosen}
use Rattle.shared_core.proofs.router.Router.free.Goals as goal

pub returns-clause-is : goal.returns-clause-is
returns-clause-is c = same_chosen _ _ (freed_in c.args.link (tables c.args.self.now)) c.changed_of.ensures c.free_if_done.ensures.is

pub returns-clause-keeps : goal.returns-clause-keeps
returns-clause-keeps c =
    keeps_then _ _ _ c.changed_of.ensures
    (record { goes = c.free_if_done.ensures.goes; roomy = refl; came = refl; asked = refl; client = refl; link = refl; texts = itself_more _; work = refl })
