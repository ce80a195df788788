use Rattle.std.proofs.Common.{◌≡◌, ◌++◌, take, drop}
use Rattle.client_desk.specs.Sessions.{next_sessions}
use Rattle.client_desk.proofs.sessions.leave.Given as goal

abbrev pub invariant-loop-row : goal.invariant-loop-row
invariant-loop-row l = l.rows ≡ next_sessions (take l.row-index l.initial.rows) ++ drop l.row-index l.initial.rows
