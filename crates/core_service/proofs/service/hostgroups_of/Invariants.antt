use Rattle.{core_service.specs.Serves.hostgroups_of, std.proofs.Common.take, std.proofs.Common.◌≡◌}
use Rattle.core_service.proofs.service.hostgroups_of.Given as goal

abbrev pub invariant-loop-row : goal.invariant-loop-row
invariant-loop-row l = l.hostgroups ≡ hostgroups_of (take l.row-index l.rows)
