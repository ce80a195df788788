use Rattle.shared_core.proofs.Acting.{forgets_link, forgets_no_link}
use Rattle.shared_core.proofs.router.Router.forget_closing.Goals as goal

pub returns-in-Some-clause-forgets : goal.returns-in-Some-clause-forgets
returns-in-Some-clause-forgets c =
    forgets_link c.args.self.now c.loses.new.self _ c.in-Some.link c.in-Some.ensures.value c.loses.ensures.is c.forget_link.ensures.is
    c.loses.ensures.keeps.goes c.forget_link.ensures.goes c.loses.ensures.keeps.roomy c.loses.ensures.keeps.came c.loses.ensures.texts c.loses.ensures.keeps.work
