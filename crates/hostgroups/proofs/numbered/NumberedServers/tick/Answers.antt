use Rattle.std.proofs.Common.{◌≡◌, map, sym, ◌∙◌, arith}
use Rattle.hostgroups.specs.Servers.{restated}
use Rattle.hostgroups.specs.Statuses.{once_ticked}
use Rattle.hostgroups.proofs.Changes.{names_of-restated, restated_all, restated_more}
use Rattle.hostgroups.proofs.numbered.NumberedServers.tick.Goals as goal

pub invariant_of-self : goal.invariant_of-self
invariant_of-self c =
    let so_far = rw c.deref_mut-server-items.ensures.value at c.loop-server.invariant in
    let all : c.loop-server.server-items ≡ map (restated (once_ticked c.args.now_ms)) c.self.inside.servers.items =
    restated_all (once_ticked c.args.now_ms) c.self.inside.servers.items c.loop-server.server-items c.loop-server.server-index
    (rw c.deref_mut-server-items.ensures.value at c.loop-server-test.false) so_far in
    c.self.invariant ∙ sym (names_of-restated (once_ticked c.args.now_ms) c.self.inside.servers.items c.loop-server.server-items
    c.self.inside.servers.len all c.self.inside.servers.ok.0)

pub loop-server-preserved : goal.loop-server-preserved
loop-server-preserved c =
    restated_more (once_ticked c.args.now_ms) _ c.loop-server.server-items c.loop-server.server-index _ c.once_ticked-server.result
    (omega arith) (omega arith) c.loop-server.invariant c.once_ticked-server.ensures
