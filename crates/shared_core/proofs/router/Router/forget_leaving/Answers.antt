use Rattle.std.proofs.Common.{refl, sym}
use Rattle.shared_core.proofs.Acting.{forgets_client, forgets_no_client}
use Rattle.shared_core.proofs.router.Router.forget_leaving.Goals as goal

pub returns-in-Some-clause-forgets : goal.returns-in-Some-clause-forgets
returns-in-Some-clause-forgets c =
    forgets_client c.args.self.now _ c.in-Some.client c.in-Some.ensures.value c.forget_client-note.ensures.is c.forget_client-note.ensures.goes refl refl refl refl
