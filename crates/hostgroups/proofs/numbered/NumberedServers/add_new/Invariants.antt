use Rattle.std.proofs.Common.{◌≡◌, ◌++◌, map, take}
use Rattle.hostgroups.specs.Reloads.{new_rows}
use Rattle.hostgroups.specs.Servers.{in_force}
use Rattle.hostgroups.proofs.numbered.NumberedServers.add_new.Given as goal

abbrev pub invariant-loop-row : goal.invariant-loop-row
invariant-loop-row l = l.servers ≡ l.initial.servers ++ map in_force (new_rows l.self (take l.row-index l.rows))
