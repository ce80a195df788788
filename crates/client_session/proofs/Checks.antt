-- What a check decides.
use Rattle.std.proofs.Common.{Bool, IsTrue, List, bytes_eq, false, refl, sym, true, ℕ, ◌↔◌, ◌≡◌}
use Rattle.std.proofs.lemmas.Slice.Eq.{bytes_eq-Decides}

pub decided : (b : Bool) (given wanted : List ℕ) → (IsTrue b ↔ (given ≡ wanted)) → b ≡ bytes_eq given wanted
decided true given wanted is = sym ((bytes_eq-Decides given wanted).1 (is.0 refl))
decided false given wanted is = by (bytes_eq given wanted) refl where
  by : (test : Bool) → bytes_eq given wanted ≡ test → false ≡ bytes_eq given wanted
  by true equal = (let no : false ≡ true = is.1 ((bytes_eq-Decides given wanted).0 equal) in cc)
  by false other = sym other
