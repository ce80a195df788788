use Rattle.std.proofs.Common.{take}
use Rattle.hostgroups.specs.Turns.{IsHeaviest}
use Rattle.hostgroups.proofs.dealing.heaviest.Given as goal

abbrev pub invariant-loop-row : goal.invariant-loop-row
invariant-loop-row l = IsHeaviest l.hostgroup l.heaviest (take l.row-index l.rows)
