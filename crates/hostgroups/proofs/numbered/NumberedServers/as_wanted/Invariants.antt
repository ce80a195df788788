use Rattle.std.proofs.Common.{◌≡◌, map, take}
use Rattle.hostgroups.specs.Reloads.{as_named}
use Rattle.hostgroups.specs.Servers.{rows_of}
use Rattle.hostgroups.proofs.numbered.NumberedServers.as_wanted.Given as goal

abbrev pub invariant-loop-server : goal.invariant-loop-server
invariant-loop-server l = l.servers ≡ map (as_named (rows_of l.wanted)) (take l.server-index l.server-items)
