use Rattle.std.proofs.Common.{refl}
use Rattle.core_tables.specs.Tables.{IsSame}
use Rattle.router_laws.specs.wakes.Settling.{Quits, settled}
use Rattle.shared_core.specs.Stands.{SettlesSo, tables}
use Rattle.shared_core.proofs.Settles.{if_ok, settles_so}
use Rattle.shared_core.proofs.router.Router.quits.Goals as goal

pub returns-then-may_begin-clause-settles : goal.returns-then-may_begin-clause-settles
returns-then-may_begin-clause-settles c =
    if_ok c.begin_quit.result (IsSame (tables (record c.args.self.now { marked = c.begin_quit.new.self })) (settled (Quits c.args.link) (tables c.args.self.now))) (SettlesSo c.args.self.now (record c.args.self.now { marked = c.begin_quit.new.self }))
    (λ is. settles_so (Quits c.args.link) c.args.self.now (record c.args.self.now { marked = c.begin_quit.new.self }) (c.may_begin.ensures c.if-may_begin.true) is refl refl refl refl) c.begin_quit.ensures.is
