-- What files and a sink in memory show.
use Rattle.std.specs.Prelude.{ℕ, List}

-- the bytes by name, and how often a read has failed
pub record HeldFiles : Type 0 where
  pub files : List (List ℕ × List ℕ)
  pub faults : ℕ

-- the bytes that were taken, and how often a put has failed
pub record HeldBytes : Type 0 where
  pub bytes : List ℕ
  pub faults : ℕ
