use Rattle.std.proofs.Common.{refl}
use Rattle.core_tables.specs.Tables.{IsSame}
use Rattle.router_laws.specs.wakes.Settling.{Steps, settled}
use Rattle.shared_core.specs.Stands.{SettlesSo, tables}
use Rattle.shared_core.proofs.Settles.{if_ok, settles_so}
use Rattle.shared_core.proofs.router.Router.steps.Goals as goal

pub returns-then-may_begin-clause-settles : goal.returns-then-may_begin-clause-settles
returns-then-may_begin-clause-settles c =
    if_ok c.begin_step.result (IsSame (tables (record c.args.self.now { marked = c.begin_step.new.self })) (settled (Steps c.args.link c.args.purpose c.args.wish) (tables c.args.self.now))) (SettlesSo c.args.self.now (record c.args.self.now { marked = c.begin_step.new.self }))
    (λ is. settles_so (Steps c.args.link c.args.purpose c.args.wish) c.args.self.now (record c.args.self.now { marked = c.begin_step.new.self }) (record { begins = c.may_begin.ensures c.if-may_begin.true; for_whom = c.is_for.ensures c.if-is_for.true; by = c.is_step.ensures c.if-is_step.true }) is refl refl refl refl) c.begin_step.ensures.is
