use Rattle.std.proofs.Common.{◌≡◌, map, take}
use Rattle.hostgroups.specs.Servers.{turning}
use Rattle.hostgroups.proofs.reload.turning_rows.Given as goal

abbrev pub invariant-loop-server : goal.invariant-loop-server
invariant-loop-server l = l.rows.items ≡ map turning (take l.server-index l.servers)
