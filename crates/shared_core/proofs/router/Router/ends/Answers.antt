use Rattle.std.proofs.Common.{refl}
use Rattle.core_texts.proofs.Keeping.{itself_more}
use Rattle.shared_core.specs.Stands.{tables}
use Rattle.shared_core.proofs.Goings.{leaves-by}
use Rattle.shared_core.proofs.Keeping.{keeps_then, same_chosen}
use Rattle.shared_core.proofs.router.Router.ends.Goals as goal

pub returns-then-may_end-clause-ends : goal.returns-then-may_end-clause-ends
returns-then-may_end-clause-ends c =
    leaves-by c.args.client (tables c.args.self.now) _ (c.may_end.ensures c.if-may_end.true) (same_chosen _ _ _ c.changed.ensures c.end.ensures.is)

pub returns-then-may_end-clause-keeps : goal.returns-then-may_end-clause-keeps
returns-then-may_end-clause-keeps c =
    keeps_then _ _ _ c.changed.ensures
    (record { goes = c.end.ensures.goes; roomy = refl; came = refl; asked = refl; client = refl; link = refl; texts = itself_more _; work = refl })
