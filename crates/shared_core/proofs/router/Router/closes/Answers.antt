use Rattle.std.proofs.Common.{subst, sym}
use Rattle.std.specs.Prelude.{Option}
use Rattle.marked_tables.proofs.Going.{still_goes}
use Rattle.ready_loop.specs.declared.machines.Act.{Act}
use Rattle.shared_core.proofs.Closings.{farewell_closes, goes_same, lost_closes, still_acts}
use Rattle.shared_core.proofs.router.Router.closes.Goals as goal
use Rattle.shared_core.specs.Stands.{ActsSo, shown}

pub returns-in_err-server-clause-acts : goal.returns-in_err-server-clause-acts
returns-in_err-server-clause-acts c =
    subst (λ (act : Option Act). ActsSo c.args.self.now c.args.self.now act) (sym c.from_residual.ensures)
    (still_acts (shown c.args.self.now) c.requires.closed)

pub returns-in_err-server-clause-goes : goal.returns-in_err-server-clause-goes
returns-in_err-server-clause-goes c = still_goes c.args.self.now.marked

pub returns-then-not-may_close-clause-acts : goal.returns-then-not-may_close-clause-acts
returns-then-not-may_close-clause-acts c = still_acts (shown c.args.self.now) c.requires.closed

pub returns-then-not-may_close-clause-goes : goal.returns-then-not-may_close-clause-goes
returns-then-not-may_close-clause-goes c = still_goes c.args.self.now.marked

pub returns-then-says_farewell-clause-acts : goal.returns-then-says_farewell-clause-acts
returns-then-says_farewell-clause-acts c =
    farewell_closes c.routers_are_linked.ensures c.args.link c.args.self.now c.calls_waiting.new.self
    (record {
      closed = c.requires.closed;
      server = c.in_ok-server.server.now;
      there = sym c.in_ok-server.ensures;
      with_it = c.may_close.ensures c.if-not-may_close.false;
      unawaited = c.calls_waiting.ensures.unawaited;
      kept = c.calls_waiting.ensures.kept;
      same = c.calls_waiting.ensures.same;
    })
    c.closes_router.ensures c.farewells_router.ensures
    (c.says_farewell-says_farewell.ensures c.if-says_farewell.true c.args.link (sym c.in_ok-server.ensures))

pub returns-then-says_farewell-clause-goes : goal.returns-then-says_farewell-clause-goes
returns-then-says_farewell-clause-goes c = goes_same c.args.self.now c.calls_waiting.new.self c.calls_waiting.ensures.same

pub returns-clause-acts : goal.returns-clause-acts
returns-clause-acts c =
    lost_closes c.routers_are_linked.ensures c.args.link c.args.self.now c.calls_waiting.new.self
    (record {
      closed = c.requires.closed;
      server = c.in_ok-server.server.now;
      there = sym c.in_ok-server.ensures;
      with_it = c.may_close.ensures c.if-not-may_close.false;
      unawaited = c.calls_waiting.ensures.unawaited;
      kept = c.calls_waiting.ensures.kept;
      same = c.calls_waiting.ensures.same;
    })
    c.lost_closes_router.ensures c.loses.new.self c.loses.ensures.is c.loses.ensures.keeps c.loses.ensures.texts
