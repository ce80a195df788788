use Rattle.std.proofs.Common.{refl}
use Rattle.std.proofs.lemmas.Result.{on_ok_weaker}
use Rattle.shared_core.proofs.LinkOpens.{has_opened}
use Rattle.shared_core.proofs.router.Router.opens.Goals as goal

pub returns-clause-opens : goal.returns-clause-opens
returns-clause-opens c = on_ok_weaker c.open.result (λ same. has_opened c.args.link c.args.asked.server _ _ _ _ _ _ same refl) c.open.ensures.is
