use Rattle.marked_tables.proofs.Going.{goes_along}
use Rattle.shared_core.proofs.Acting.{forgets_both}
use Rattle.shared_core.proofs.router.Router.forget_closed.Goals as goal

pub returns-clause-forgets : goal.returns-clause-forgets
returns-clause-forgets c =
    forgets_both c.args.self.now c.forget_leaving.new.self c.forget_closing.new.self c.forget_leaving.ensures.forgets c.forget_leaving.ensures.client
    c.forget_leaving.ensures.link c.forget_closing.ensures.forgets c.forget_closing.ensures.client c.forget_closing.ensures.link

pub returns-clause-goes : goal.returns-clause-goes
returns-clause-goes c =
    goes_along c.args.self.now.marked c.forget_leaving.new.self.marked c.forget_closing.new.self.marked c.forget_leaving.ensures.forgets.goes
    c.forget_closing.ensures.forgets.goes
