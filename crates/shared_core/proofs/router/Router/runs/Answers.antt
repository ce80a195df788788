use Rattle.std.proofs.Common.{refl}
use Rattle.core_tables.specs.Tables.{IsSame}
use Rattle.router_laws.specs.wakes.Settling.{Runs, settled}
use Rattle.shared_core.specs.Stands.{SettlesSo, tables}
use Rattle.shared_core.proofs.Settles.{if_ok, settles_so}
use Rattle.shared_core.proofs.router.Router.runs.Goals as goal

pub returns-then-may_state-clause-settles : goal.returns-then-may_state-clause-settles
returns-then-may_state-clause-settles c =
    if_ok c.begin_run.result (IsSame (tables (record c.args.self.now { marked = c.begin_run.new.self })) (settled (Runs c.args.link c.args.name) (tables c.args.self.now)))
    (SettlesSo c.args.self.now (record c.args.self.now { marked = c.begin_run.new.self }))
    (λ is. settles_so (Runs c.args.link c.args.name) c.args.self.now (record c.args.self.now { marked = c.begin_run.new.self })
    (c.may_state.ensures c.if-may_state.true c.args.link (c.may_begin.ensures c.if-may_begin.true)) is refl refl refl refl) c.begin_run.ensures.is
