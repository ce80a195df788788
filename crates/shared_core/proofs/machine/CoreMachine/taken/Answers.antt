use Rattle.marked_tables.proofs.Going.{goes_only}
use Rattle.shared_core.specs.declared.whole.Core.{Core}
use Rattle.shared_core.proofs.Machining.{moves_chosen}
use Rattle.shared_core.proofs.Standing.{wrote_carries}
use Rattle.shared_core.proofs.machine.CoreMachine.taken.Goals as goal

pub returns-clause-carries : goal.returns-clause-carries
returns-clause-carries c = λ sent is.
    wrote_carries c.args.self.now c.wrote.new.self c.turns.new.self c.args.link c.args.n sent c.requires.acted is c.wrote.ensures.carries
    (moves_chosen c.args.self.now.router c.wrote.new.self c.turns.new.self c.wrote.ensures.moves c.turns.ensures) c.turns.ensures.same

pub returns-clause-changes : goal.returns-clause-changes
returns-clause-changes c =
    goes_only (λ (core : Core). core.router.marked) c.args.self.now (record c.args.self.now { router = c.turns.new.self })
    (moves_chosen c.args.self.now.router c.wrote.new.self c.turns.new.self c.wrote.ensures.moves c.turns.ensures).goes
