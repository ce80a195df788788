use Rattle.std.proofs.Common.{refl, subst, sym}
use Rattle.shared_core.specs.Wakes.{HasFailed}
use Rattle.shared_core.specs.Follows.{Made, made_by}
use Rattle.shared_core.specs.Stands.{tables}
use Rattle.shared_core.proofs.Callings.{none_fails, one_fails, rising_one, there_one}
use Rattle.shared_core.proofs.Keeping.{but_behind, keeps_along, keeps_but, keeps_still, made_behind}
use Rattle.shared_core.proofs.router.Router.refuses.Goals as goal

pub returns-in_ok-follow_all-clause-fails : goal.returns-in_ok-follow_all-clause-fails
returns-in_ok-follow_all-clause-fails c =
    subst (λ (made : Made). HasFailed c.args.service.now made (tables c.args.self.now) (tables c.follow_all.new.self))
    (sym (made_behind c.args.service.now c.args.self.now c.gives_up.new.self c.follow_all.new.self c.in_ok-gives_up.ensures.keeps))
    (one_fails c.args.service.now _ _ _ c.args.up _ _ _ c.new-nobody.ensures.empty (c.may_be_refused.ensures.refused c.if-may_be_refused.true)
    (c.may_be_refused.ensures.waits c.if-may_be_refused.true) c.in_ok-gives_up.ensures.answers
    (c.in_ok-follow_all.ensures.follow (rising_one c.args.up.client)
    (there_one c.args.up.client c.args.up.why _ _ (c.may_be_refused.ensures.waits c.if-may_be_refused.true) c.in_ok-gives_up.ensures.answers)))

pub returns-in_ok-follow_all-clause-keeps : goal.returns-in_ok-follow_all-clause-keeps
returns-in_ok-follow_all-clause-keeps c = but_behind _ _ _ c.in_ok-follow_all.ensures.keeps c.in_ok-gives_up.ensures.keeps

pub returns-else-may_be_refused-clause-fails : goal.returns-else-may_be_refused-clause-fails
returns-else-may_be_refused-clause-fails c = none_fails c.args.service.now (made_by c.args.service.now c.args.self.now c.args.self.now) refl (tables c.args.self.now)

pub returns-else-may_be_refused-clause-keeps : goal.returns-else-may_be_refused-clause-keeps
returns-else-may_be_refused-clause-keeps c = keeps_but _ _ (keeps_still _)
