use Rattle.hostgroups.proofs.Reloading.{Loads}
use Rattle.hostgroups.proofs.numbered.NumberedServers.wanted.Given as goal

abbrev pub invariant-loop-row : goal.invariant-loop-row
invariant-loop-row l = Loads l.self l.rows l.row-index l.wanted l.connections l.given
