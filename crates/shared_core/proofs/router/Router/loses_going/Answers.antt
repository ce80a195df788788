use Rattle.std.proofs.Common.{subst, sym}
use Rattle.shared_core.specs.Losses.{HasLost}
use Rattle.shared_core.specs.Follows.{Made}
use Rattle.std.proofs.lemmas.Result.{on_ok_weaker}
use Rattle.shared_core.specs.Stands.{tables}
use Rattle.shared_core.proofs.Keeping.{but_behind, keeps_along, made_behind}
use Rattle.shared_core.proofs.LinkLosses.{lost_so}
use Rattle.shared_core.proofs.router.Router.loses_going.Goals as goal

pub returns-clause-loses : goal.returns-clause-loses
returns-clause-loses c =
    on_ok_weaker c.call.result
    (λ calls may.
    subst (λ (made : Made). HasLost c.args.service.now made c.args.link (tables c.args.self.now) (tables c.call.new.self))
    (sym (made_behind c.args.service.now c.args.self.now c.gives.new.self c.call.new.self
    (keeps_along _ _ _ c.in_ok-gives.ensures.keeps c.loses.ensures.keeps)))
    (lost_so c.args.service.now _ c.args.link c.args.name c.args.given (tables c.args.self.now) _ _ (tables c.call.new.self)
    c.loses.ensures.is c.in_ok-gives.ensures.gives calls may)) c.call.ensures.calls

pub returns-clause-keeps : goal.returns-clause-keeps
returns-clause-keeps c =
    on_ok_weaker c.call.result
    (λ keeps. but_behind _ _ _ keeps (keeps_along _ _ _ c.in_ok-gives.ensures.keeps c.loses.ensures.keeps)) c.call.ensures.keeps
