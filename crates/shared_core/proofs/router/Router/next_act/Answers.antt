use Rattle.std.proofs.Common.{refl}
use Rattle.shared_core.proofs.Acting.{next_acts, next_goes}
use Rattle.shared_core.proofs.router.Router.next_act.Goals as goal

pub acts-act-requires-clause-closed : goal.acts-act-requires-clause-closed
acts-act-requires-clause-closed c = c.forget_closed.ensures.forgets.closed

pub returns-clause-acts : goal.returns-clause-acts
returns-clause-acts c =
    next_acts c.args.self.now c.forget_closed.new.self c.acts-act.new.self c.acts-act.new.self c.acts-act.result c.forget_closed.ensures.forgets
    c.acts-act.ensures.acts refl

pub returns-clause-goes : goal.returns-clause-goes
returns-clause-goes c =
    next_goes c.args.self.now c.forget_closed.new.self c.acts-act.new.self c.acts-act.new.self c.forget_closed.ensures.goes c.acts-act.ensures.goes refl
