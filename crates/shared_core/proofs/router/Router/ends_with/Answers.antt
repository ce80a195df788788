use Rattle.std.proofs.Common.{arith, sym, ◌∙◌}
use Rattle.shared_core.specs.Stands.{tables}
use Rattle.shared_core.proofs.LinkLosses.{given_goes_with, held_there, idle_goes_with, nobody_there}
use Rattle.shared_core.proofs.router.Router.ends_with.Goals as goal

pub returns-in_default : goal.returns-in_default
returns-in_default c = nobody_there c.args.link c.args.given (tables c.args.self.now) (sym c.in_default.is ∙ c.present_on.ensures)

pub returns-then-is_given : goal.returns-then-is_given
returns-then-is_given c =
    given_goes_with c.args.link c.in-Some.name c.args.given (tables c.args.self.now) c.in-Some.ensures (omega arith)
    (sym c.is_given.ensures ∙ c.if-is_given.true)

pub returns-then-works_in : goal.returns-then-works_in
returns-then-works_in c =
    held_there c.args.link c.in-Some.name c.args.given (tables c.args.self.now) c.in-Some.ensures (omega arith)
    (sym c.works_in.ensures ∙ c.if-works_in.true)

pub returns-else-works_in : goal.returns-else-works_in
returns-else-works_in c =
    idle_goes_with c.args.link c.in-Some.name c.args.given (tables c.args.self.now) c.in-Some.ensures (omega arith)
    (sym c.works_in.ensures ∙ c.if-works_in.false)
