-- The lemmas on lists and places that rows and tables want.
use Rattle.std.proofs.Common.{◌≡◌, Option, Some, None, refl}
use Rattle.std.specs.Prelude.{unwrap_or}
use Rattle.std.proofs.lemmas.List.{take-map}

pub found_else : {A : Type 0} (found : Option A) (x d : A) → Some x ≡ found → x ≡ unwrap_or found d
found_else found x d is = rw (← is) refl

pub none_else : {A : Type 0} (found : Option A) (d : A) → None ≡ found → d ≡ unwrap_or found d
none_else found d is = rw (← is) refl

pub ruleset lists = (take-map, found_else, none_else)
