-- What a wire of scripts shows.
use Rattle.std.specs.Prelude.{ℕ, Option}
use Rattle.mx_wire.specs.Log.{Log}
use Rattle.scripted_wire.specs.Plays.{Cast}

-- how often a port or a wait has failed, and how often a link
pub record Failed : Type 0 where
  pub ports : ℕ
  pub links : ℕ

-- who plays, its log where it is told, and these counts
pub record Shown : Type 0 where
  pub cast : Cast
  pub told : Option Log
  pub failed : Failed
