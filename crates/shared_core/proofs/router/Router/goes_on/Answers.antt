use Rattle.shared_core.specs.Stands.{tables}
use Rattle.std.proofs.Common.{subst, sym}
use Rattle.shared_core.specs.Follows.{HasGone, Made, made_by}
use Rattle.shared_core.proofs.Goings.{absent-so, gone-so}
use Rattle.shared_core.proofs.Keeping.{but_then, keeps_along, made_then}
use Rattle.shared_core.proofs.router.Router.goes_on.Goals as goal

pub returns-in_ok-parts-in-Some-clause-goes : goal.returns-in_ok-parts-in-Some-clause-goes
returns-in_ok-parts-in-Some-clause-goes c = λ going.
    subst (λ (made : Made). HasGone c.args.service.now made c.args.client c.args.ends (tables c.args.self.now) (tables c.parts.new.self))
    (sym (made_then c.args.service.now c.args.self.now c.takes_turns.new.self c.parts.new.self c.in_ok-parts-in-Some.ensures.keeps))
    (gone-so c.args.service.now (made_by c.args.service.now c.args.self.now c.takes_turns.new.self) c.parts.new.self.texts
    c.in_ok-parts-in-Some.ensures.keeps.texts c.args.client c.args.ends _ _ _ _ _ c.in-Some.is c.in_ok-took.ensures.is c.in_ok-parts-in-Some.ensures.parts)

pub returns-in_ok-parts-in-Some-clause-keeps : goal.returns-in_ok-parts-in-Some-clause-keeps
returns-in_ok-parts-in-Some-clause-keeps c = but_then _ _ _ c.in_ok-parts-in-Some.ensures.keeps c.in_ok-took.ensures.keeps

pub returns-in-None-clause-goes : goal.returns-in-None-clause-goes
returns-in-None-clause-goes c = λ going.
    absent-so c.args.service.now _ c.args.client c.args.ends _ _ _ _ c.in-None.is c.in_ok-took.ensures.is going
