use Rattle.shared_core.proofs.Goings.{followed-kept, followed-more, followed-so}
use Rattle.shared_core.proofs.Keeping.{but_then, keeps_along}
use Rattle.shared_core.proofs.router.Router.follow.Goals as goal

pub returns-clause-follows : goal.returns-clause-follows
returns-clause-follows c = λ going.
    followed-kept c.args.service.now c.args.self.now c.goes_on.new.self c.free_all.new.self c.free_all.ensures.keeps c.args.client c.args.ends _ _
    (followed-so c.args.service.now _ c.args.client c.args.ends _ _ _ _ c.in_ok-homes.ensures (c.in_ok-goes_on.ensures.goes going)
    (rw c.as_slice.ensures.value at c.free_all.ensures.is) going)

pub returns-clause-keeps : goal.returns-clause-keeps
returns-clause-keeps c = but_then _ _ _ c.free_all.ensures.keeps c.in_ok-goes_on.ensures.keeps
