use Rattle.std.proofs.Common.{◌∙◌, arith}
use Rattle.scripted_wire.proofs.Hosting.{no_server, on_err, runs_in, stays, still_taken}
use Rattle.scripted_wire.proofs.hosts.Hosts.run.Goals as goal

pub returns-then-server-len-clause-ok : goal.returns-then-server-len-clause-ok
returns-then-server-len-clause-ok g c =
    no_server g.R.TameServer.stored g.R.TameServer.step c.args.seat c.args.cmd.now c.self.inside.servers.items c.self.inside.seats.items c.index_mut-place.result.now c.args.self.now c.self.view_is (omega arith) c.index_mut-place.ensures.value (omega arith)

pub returns-in_err-run-clause-err : goal.returns-in_err-run-clause-err
returns-in_err-run-clause-err g c =
    on_err c.from_residual.result
    (stays g.R.TameServer.stored c.args.seat c.self.inside.servers.items c.self.inside.seats.items c.index_mut-place.result.now c.index_mut-host.result.now c.run.new.self c.run.new.session c.index_mut-place.ensures.value c.index_mut-host.ensures.value c.in_err-run.ensures.err.0 c.in_err-run.ensures.err.1
    ∙ c.self.view_is)

pub returns-clause-ok : goal.returns-clause-ok
returns-clause-ok g c =
    runs_in g.R.TameServer.stored g.R.TameServer.step c.args.seat c.args.cmd.now c.self.inside.servers.items c.self.inside.seats.items c.index_mut-place.result.now c.index_mut-host.result.now c.run.new.self c.run.new.session c.in_ok-run.field-0 c.args.self.now c.self.view_is (omega arith) c.index_mut-place.ensures.value (omega arith) c.index_mut-host.ensures.value c.in_ok-run.ensures.ok

pub invariant_of-self-2 : goal.invariant_of-self-2
invariant_of-self-2 g c =
    still_taken g.R.TameServer.stored g.R.TameServer.tests g.R.TameServer.step c.tame.ensures.tests_kept.keeps c.args.seat c.args.cmd.now c.self.inside.servers.items c.self.inside.seats.items c.index_mut-place.result.now c.index_mut-host.result.now c.run.new.self c.run.new.session _ c.self.invariant.0 c.self.invariant.1 (omega arith) c.index_mut-place.ensures.value (omega arith) c.index_mut-host.ensures.value c.in_ok-run.ensures.ok
