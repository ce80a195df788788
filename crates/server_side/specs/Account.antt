-- Who logs in to a server.
use Rattle.std.specs.Prelude.{ℕ, Bool, List}

-- a user's name and password, and whether an UPDATE tells of the rows that it found
pub record Account : Type 0 where
  pub user : List ℕ
  pub password : List ℕ
  pub found_rows : Bool
