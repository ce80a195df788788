-- What a read of a link gives.
use Rattle.std.specs.Prelude.{◌≡◌, ℕ, Bool, true, false, ◌<◌, List, [], ◌∷◌, length, min, take}
use Rattle.mx_wire.specs.declared.wire.Got.{Got}
use Rattle.mx_wire.specs.declared.wire.Got.TheVariants as got

-- so many bytes of those that are there were moved to the front
pub record ReadsFrom (there old new : List ℕ) (size : ℕ) : Type 0 where
  pub some : 0 < size
  pub size_is : size ≡ min (length old) (length there)
  pub bytes : take size new ≡ take size there

-- nothing is there, and the link ends here or doesn't
pub record IsAtEnd (there : List ℕ) (ends is : Bool) : Type 0 where
  pub read : there ≡ []
  pub end : ends ≡ is

abbrev pub Gives : (there : List ℕ) → (ends : Bool) → (old new : List ℕ) → Got → Type 0
Gives there ends old new (got.Got n) = ReadsFrom there old new n
Gives there ends old new got.NotReady = IsAtEnd there ends false
Gives there ends old new got.End = IsAtEnd there ends true
Gives there ends old new got.Failed = ⊥

abbrev pub is_some_of : List ℕ → Bool
is_some_of [] = false
is_some_of (x ∷ xs) = true
