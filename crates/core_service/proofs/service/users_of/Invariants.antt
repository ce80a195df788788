use Rattle.{core_service.specs.Serves.users_of, std.proofs.Common.take, std.proofs.Common.◌≡◌}
use Rattle.core_service.proofs.service.users_of.Given as goal

abbrev pub invariant-loop-row : goal.invariant-loop-row
invariant-loop-row l = l.users.items ≡ users_of (take l.row-index l.rows)
