use Rattle.hostgroups.proofs.Building.{Builds}
use Rattle.hostgroups.proofs.servers.numbered.Given as goal

abbrev pub invariant-loop-row : goal.invariant-loop-row
invariant-loop-row l = Builds l.rows l.row-index l.servers l.connections
