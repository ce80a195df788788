use Rattle.std.proofs.Common.{refl}
use Rattle.shared_core.specs.Follows.{made_by}
use Rattle.shared_core.specs.Stands.{tables}
use Rattle.shared_core.proofs.Callings.{none_fails}
use Rattle.shared_core.proofs.Keeping.{keeps_but, keeps_still}
use Rattle.shared_core.proofs.router.Router.fails.Goals as goal

pub returns-in-None-clause-fails : goal.returns-in-None-clause-fails
returns-in-None-clause-fails c = none_fails c.args.service.now (made_by c.args.service.now c.args.self.now c.args.self.now) refl (tables c.args.self.now)

pub returns-in-None-clause-keeps : goal.returns-in-None-clause-keeps
returns-in-None-clause-keeps c = keeps_but _ _ (keeps_still _)
