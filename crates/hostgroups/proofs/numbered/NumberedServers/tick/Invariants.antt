use Rattle.std.proofs.Common.{◌≡◌, ◌++◌, map, take, drop}
use Rattle.hostgroups.specs.Servers.{restated}
use Rattle.hostgroups.specs.Statuses.{once_ticked}
use Rattle.hostgroups.proofs.numbered.NumberedServers.tick.Given as goal

abbrev pub invariant-loop-server : goal.invariant-loop-server
invariant-loop-server l =
    l.server-items ≡ map (restated (once_ticked l.now_ms)) (take l.server-index l.initial.server-items) ++ drop l.server-index
    l.initial.server-items
