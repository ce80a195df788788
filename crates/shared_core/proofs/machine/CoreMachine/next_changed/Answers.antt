use Rattle.shared_core.proofs.Standing.{named_keeps, named_says}
use Rattle.shared_core.proofs.machine.CoreMachine.next_changed.Goals as goal

pub returns-clause-keeps : goal.returns-clause-keeps
returns-clause-keeps c = named_keeps c.args.self.now c.next_changed.new.self c.next_changed.ensures.tables c.next_changed.ensures.known

pub returns-clause-same : goal.returns-clause-same
returns-clause-same c = named_says c.args.self.now c.next_changed.new.self c.next_changed.ensures.tables c.next_changed.ensures.known
