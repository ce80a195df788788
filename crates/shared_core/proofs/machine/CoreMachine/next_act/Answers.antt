use Rattle.marked_tables.proofs.Going.{goes_only}
use Rattle.shared_core.specs.declared.whole.Core.{Core}
use Rattle.shared_core.proofs.Standing.{acts_awaited, acts_stand, none_asks, owes_none}
use Rattle.shared_core.proofs.machine.CoreMachine.next_act.Goals as goal

pub returns-clause-awaits : goal.returns-clause-awaits
returns-clause-awaits c = acts_awaited (record c.args.self.now { router = c.next_act.new.self }) c.next_act.result c.next_act.ensures.asked

pub returns-clause-act : goal.returns-clause-act
returns-clause-act c =
    acts_stand c.args.self.now c.next_act.new.self c.next_act.result c.next_act.ensures.acts c.next_act.ensures.goes c.next_act.ensures.asked
    c.next_act.ensures.acting

pub returns-clause-owed : goal.returns-clause-owed
returns-clause-owed c = owes_none c.args.self.now (record c.args.self.now { router = c.next_act.new.self }) c.next_act.result

pub returns-clause-changes : goal.returns-clause-changes
returns-clause-changes c =
    goes_only (λ (core : Core). core.router.marked) c.args.self.now (record c.args.self.now { router = c.next_act.new.self }) c.next_act.ensures.goes

pub returns-clause-none : goal.returns-clause-none
returns-clause-none c = none_asks (record c.args.self.now { router = c.next_act.new.self }) c.next_act.result c.next_act.ensures.acting
