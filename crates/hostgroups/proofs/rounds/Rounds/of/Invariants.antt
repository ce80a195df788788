use Rattle.hostgroups.proofs.Filling.{Filled}
use Rattle.hostgroups.proofs.rounds.Rounds.of.Given as goal

abbrev pub invariant-loop-row : goal.invariant-loop-row
invariant-loop-row l = Filled l.rows l.row-index l.rounds
