use Rattle.std.specs.Prelude.{[], ◌∷◌, ◌++◌}
use Rattle.std.proofs.Common.{ap, subst}
use Rattle.marked_tables.proofs.Going.{goes_only}
use Rattle.marked_tables.specs.Goes.{GoesOn}
use Rattle.marked_tables.specs.declared.marked.MarkedTables.{MarkedTables}
use Rattle.shared_core.specs.declared.router.Router.{Router}
use Rattle.shared_core.specs.declared.whole.Core.{Core}
use Rattle.shared_core.proofs.Standing.{take_ruled}
use Rattle.shared_core.proofs.machine.CoreMachine.take.Goals as goal

-- rules that were loaded come in force, and the event goes through
pub returns-clause-carries : goal.returns-clause-carries
returns-clause-carries c = λ e told. record {
  carried = λ log may due was.
      take_ruled c.args.self.now c.follow_rules.new.self c.follow_rules.ensures.router c.take.new.self c.args.event c.args.bytes.now
      c.follow_rules.ensures.settled c.requires.heard c.requires.acted c.in_ok-take.ensures.tells c.in_ok-take.ensures.moves e told log may due
      (c.follow_rules.ensures.stands log was);
}

pub returns-clause-changes : goal.returns-clause-changes
returns-clause-changes c =
    goes_only (λ (core : Core). core.router.marked) c.args.self.now (record c.follow_rules.new.self { router = c.take.new.self })
    (subst (λ (m : MarkedTables). GoesOn m c.take.new.self.marked) (ap (λ (r : Router). r.marked) c.follow_rules.ensures.router)
    c.in_ok-take.ensures.moves.goes)
