use Rattle.std.proofs.Common.{refl}
use Rattle.core_tables.specs.Tables.{IsSame}
use Rattle.router_laws.specs.wakes.Settling.{Captures, settled}
use Rattle.shared_core.specs.Stands.{SettlesSo, tables}
use Rattle.shared_core.proofs.Settles.{if_ok, settles_so}
use Rattle.shared_core.proofs.router.Router.captures.Goals as goal

pub returns-then-may_begin-clause-settles : goal.returns-then-may_begin-clause-settles
returns-then-may_begin-clause-settles c =
    if_ok c.begin_capture.result (IsSame (tables (record c.args.self.now { marked = c.begin_capture.new.self })) (settled (Captures c.args.link c.args.name) (tables c.args.self.now))) (SettlesSo c.args.self.now (record c.args.self.now { marked = c.begin_capture.new.self }))
    (λ is. settles_so (Captures c.args.link c.args.name) c.args.self.now (record c.args.self.now { marked = c.begin_capture.new.self }) (c.may_begin.ensures c.if-may_begin.true) is refl refl refl refl) c.begin_capture.ensures.is
