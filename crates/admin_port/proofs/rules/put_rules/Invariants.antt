use Rattle.std.proofs.Common.{◌≡◌, drop}
use Rattle.admin_port.specs.Staged.{with_rules}
use Rattle.admin_port.proofs.rules.put_rules.Given as goal

-- the rows that are left are still to be put in their places
abbrev pub invariant-loop-row : goal.invariant-loop-row
invariant-loop-row l = with_rules l.staged.items (drop l.row-index l.rows) ≡ with_rules l.fn.staged.items l.rows
