use Rattle.std.specs.Prelude.{◌≡◌, ℕ, List, drop}
use Rattle.core_service.specs.Serves.{home_by, home_in}
use Rattle.core_service.proofs.service.homes_of.Given as goal

abbrev pub invariant-loop-k : goal.invariant-loop-k
invariant-loop-k l = (user : List ℕ) → home_in l.users user ≡ home_by (drop l.k l.rows) user
