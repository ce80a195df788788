use Rattle.shared_core.proofs.Acting.{asked_same, timed_acts, timed_goes}
use Rattle.shared_core.proofs.router.Router.acts.Goals as goal

pub returns-clause-acts : goal.returns-clause-acts
returns-clause-acts c =
    timed_acts c.args.self.now c.act-act.new.self c.times.new.self c.act-act.result c.act-act.ensures.acts c.times.ensures.chooses.same

pub returns-clause-goes : goal.returns-clause-goes
returns-clause-goes c = timed_goes c.args.self.now c.act-act.new.self c.times.new.self c.act-act.ensures.goes c.times.ensures.chooses.same

pub returns-clause-asked : goal.returns-clause-asked
returns-clause-asked c =
    asked_same c.act-act.result c.act-act.new.self.asked c.times.new.self.asked c.times.ensures.chooses.asked c.act-act.ensures.asked
