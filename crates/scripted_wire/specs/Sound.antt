-- What keeps the log sound: links are new, and moments don't fall.
use Rattle.std.specs.Prelude.{◌≡◌, ℕ, ◌≤◌, Bool, true, nat_lt, Option, Some, None}
use Rattle.mx_base.specs.declared.names.LinkId.{LinkId}
use Rattle.mx_wire.specs.Log.{Log, AreMarks, moment_of}
use Rattle.mx_wire.specs.Tells.{all_below}
use Rattle.mx_wire.specs.Adds.{Adds}

pub record IsFollowed (links moment : ℕ) (log : Log) : Type 0 where
  pub below : all_below links log ≡ true
  pub moments : moment_of log ≤ moment

-- the log names none but the links that came, up to this moment
pub record IsSound (links moment : ℕ) (told : Option Log) : Type 0 where
  pub follows : (log : Log) → told ≡ Some log → IsFollowed links moment log

-- marks of these links were put behind the log
pub record AddsMarks (links : ℕ) (old new : Option Log) : Type 0 where
  pub marks : Log
  pub are : AreMarks marks
  pub below : all_below links marks ≡ true
  pub adds : Adds old marks new
