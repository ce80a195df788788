use Rattle.std.proofs.Common.{◌≡◌, ℕ, List, take}
use Rattle.sql_whitelist.specs.Held.{in_users}
use Rattle.sql_whitelist.specs.Listed.{allows}
use Rattle.sql_whitelist.proofs.list.Whitelist.build.Given as goal

-- the rows so far
abbrev pub invariant-loop-row : goal.invariant-loop-row
invariant-loop-row l = (user schema : List ℕ) (hash : ℕ) → in_users l.users user schema hash ≡ allows (take l.row-index l.rows) user schema hash
