-- What files hold, and what a sink took.
use Rattle.std.specs.Prelude.{◌≡◌, ℕ, List, ◌++◌, bytes_eq, take, Option, Some, None}
use Rattle.std.specs.Map.{lookup}

-- the bytes under a name, where the files tell them
pub record HasUnder (name bytes : List ℕ) (held : Option (List (List ℕ × List ℕ))) : Type 0 where
  pub found : (files : List (List ℕ × List ℕ)) → held ≡ Some files → lookup (bytes_eq name) files ≡ Some bytes

-- What a sink took is told now as it was before, with these bytes behind.
pub record Takes (old : Option (List ℕ)) (bytes : List ℕ) (new : Option (List ℕ)) : Type 0 where
  pub appended : (taken : List ℕ) → old ≡ Some taken → new ≡ Some (taken ++ bytes)
  pub untold : old ≡ None → new ≡ None

-- the same with a front of the bytes
pub record TakesFront (old : Option (List ℕ)) (bytes : List ℕ) (new : Option (List ℕ)) : Type 0 where
  pub size : ℕ
  pub front : Takes old (take size bytes) new
